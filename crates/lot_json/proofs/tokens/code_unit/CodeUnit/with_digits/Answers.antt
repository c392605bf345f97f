use Rattle.std.proofs.Common.{ℕ, List, refl}
use Rattle.lot_json.specs.declared.tokens.code_unit.DigitPlace.TheVariants.{First, Second, Third, Fourth}
use Rattle.lot_json.specs.CodeUnit.{Digits, AfterUnit, digits_after}
use Rattle.lot_json.proofs.CharacterMoves.{same_leads, same_digits, below_place}
use Rattle.lot_json.proofs.CharacterEnds.{ends_second, ends_third, ends_fourth}
use Rattle.lot_json.proofs.tokens.code_unit.CodeUnit.with_digits.Goals as goal

pub returns-in-First : goal.returns-in-First
returns-in-First c = (
  same_digits c.args.place First 3 c.args.value (λ (x : List ℕ) (u : ℕ) (r : List ℕ). AfterUnit u r x) c.in-First.is refl,
  ends_second c.args.value (below_place c.args.place First c.args.value c.in-First.is c.requires),
)

pub returns-else-value : goal.returns-else-value
returns-else-value c = (
  same_digits c.args.place Second 2 c.args.value (λ (x : List ℕ) (u : ℕ) (r : List ℕ). AfterUnit u r x) c.in-Second.is refl,
  ends_third c.args.value (below_place c.args.place Second c.args.value c.in-Second.is c.requires) c.if-value.false,
)

pub returns-else-value-2 : goal.returns-else-value-2
returns-else-value-2 c = (
  same_digits c.args.place Third 1 c.args.value (λ (x : List ℕ) (u : ℕ) (r : List ℕ). AfterUnit u r x) c.in-Third.is refl,
  ends_fourth c.args.value (below_place c.args.place Third c.args.value c.in-Third.is c.requires) c.if-value-2.false,
)

pub returns-in-Fourth : goal.returns-in-Fourth
returns-in-Fourth c = same_leads
    (λ (t x : List ℕ). Digits (digits_after c.args.place) c.args.value t (λ (u : ℕ) (r : List ℕ). AfterUnit u r x))
    (λ (t x : List ℕ). AfterUnit c.args.value t x) c.end.result
    (same_digits c.args.place Fourth 0 c.args.value (λ (x : List ℕ) (u : ℕ) (r : List ℕ). AfterUnit u r x) c.in-Fourth.is refl) c.end.ensures
