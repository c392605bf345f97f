use Rattle.std.proofs.Common.{◌↔◌, ℕ, ◌∷◌, sym, subst}
use Rattle.lot_json.specs.CodeUnit.{AfterHigh}
use Rattle.lot_json.proofs.CharacterEnds.{ends_high_backslash}
use Rattle.lot_json.proofs.tokens.high_surrogate.HighSurrogate.take_backslash.Goals as goal

pub returns-then-c-eq92 : goal.returns-then-c-eq92
returns-then-c-eq92 c =
    let u = c.args.self.unit in
    ((λ t x. subst (λ (z : ℕ). AfterHigh u (z ∷ t) x ↔ AfterHigh u (92 ∷ t) x) (sym c.if-c-eq92.true) (λ h. h, λ h. h)), ends_high_backslash u)
