use Rattle.std.proofs.Common.{◌≡◌, ◌↔◌, ℕ, [], ◌∷◌, sym, subst, arith}
use Rattle.lot_json.specs.Characters.{Characters}
use Rattle.lot_json.proofs.Spellings.{quote}
use Rattle.lot_json.proofs.CharacterBegins.{control, ascii}
use Rattle.lot_json.proofs.CharacterEnds.{ends_backslash}
use Rattle.lot_json.proofs.tokens.character.begin.Goals as goal

pub returns-in-34 : goal.returns-in-34
returns-in-34 c = λ t x. subst (λ (z : ℕ). Characters (z ∷ t) x ↔ ((t ≡ []) × (x ≡ []))) (sym c.in-34.is) (quote t x)

pub returns-in-92 : goal.returns-in-92
returns-in-92 c = ((λ t x. subst (λ (z : ℕ). Characters (z ∷ t) x ↔ Characters (92 ∷ t) x) (sym c.in-92.is) (λ h. h, λ h. h)), ends_backslash)

pub returns-in-0-to-31 : goal.returns-in-0-to-31
returns-in-0-to-31 c = λ t x h. control c.args.c t x (omega arith) h

pub returns-in-32-to-127 : goal.returns-in-32-to-127
returns-in-32-to-127 c = ascii c.args.c (omega arith) (omega arith) (λ e. omega (arith, e)) (λ e. omega (arith, e))
