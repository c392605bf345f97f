use Rattle.std.proofs.Common.{◌≡◌, ◌↔◌, [], sym, ◌∙◌, subst}
use Rattle.lot_json.specs.declared.tree.number.Number.{Number}
use Rattle.lot_json.specs.declared.tokens.number_token.NumberPlace.TheVariants.{Power}
use Rattle.lot_json.specs.NumberRest.{NumberRest}
use Rattle.lot_json.proofs.NumberMoves.{at_place}
use Rattle.lot_json.proofs.EndMoves.{ends_at, must_continue}
use Rattle.lot_json.proofs.tokens.number_token.NumberToken.value.Goals as goal

pub returns-in-Zero-clause-whole : goal.returns-in-Zero-clause-whole
unfolding NumberRest
returns-in-Zero-clause-whole c = λ m. subst (λ (z : Number). NumberRest c.args.self.now [] m ↔ (m ≡ z)) (sym c.number.ensures) (ends_at _ c.args.self.now c.in-Zero.is m)

pub returns-in-Power-clause-whole : goal.returns-in-Power-clause-whole
unfolding NumberRest
returns-in-Power-clause-whole c = λ m. let here = at_place (Power c.in-Power.minus c.in-Power.power) c.args.self.now c.in-Power.is [] m in (λ h. (here.1 h).1 ∙ sym c.number-in-Power.ensures, λ v. here.0 (tt, v ∙ c.number-in-Power.ensures))

pub returns-in_default-clause-part : goal.returns-in_default-clause-part
unfolding NumberRest
returns-in_default-clause-part c = must_continue _ c.args.self.now c.in_default.not-Zero c.in_default.not-Whole c.in_default.not-Fraction c.in_default.not-Power
