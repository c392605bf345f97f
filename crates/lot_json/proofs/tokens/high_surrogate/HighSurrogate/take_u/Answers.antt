use Rattle.std.proofs.Common.{◌↔◌, ℕ, List, ◌∷◌, sym, subst}
use Rattle.lot_json.specs.CodeUnit.{AfterHigh, AfterLow, Digits}
use Rattle.lot_json.proofs.Escapes.{low_escape}
use Rattle.lot_json.proofs.CharacterEnds.{low_ends_first}
use Rattle.lot_json.proofs.tokens.high_surrogate.HighSurrogate.take_u.Goals as goal

pub returns-then-c-eq117 : goal.returns-then-c-eq117
returns-then-c-eq117 c =
    let u = c.args.self.unit in
    ((λ t x. subst (λ (z : ℕ). AfterHigh u (92 ∷ z ∷ t) x ↔ Digits 4 0 t (λ (v : ℕ) (r : List ℕ). AfterLow u v r x)) (sym c.if-c-eq117.true) (low_escape u t x)), low_ends_first u)
