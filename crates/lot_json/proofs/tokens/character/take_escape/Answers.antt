use Rattle.std.proofs.Common.{◌↔◌, ℕ, inl, inr, List, ◌∷◌, sym, subst, refl, arith}
use Rattle.lot_json.specs.Characters.{Characters}
use Rattle.lot_json.specs.CodeUnit.{Digits, AfterUnit}
use Rattle.lot_json.proofs.Escapes.{short_escape, no_escape, unit_escape}
use Rattle.lot_json.proofs.CharacterEnds.{ends_first}
use Rattle.lot_json.proofs.tokens.character.take_escape.Goals as goal

pub returns-in-34 : goal.returns-in-34
returns-in-34 c = short_escape c.args.c 34 (inl (c.in-34.is, refl))

pub returns-in-92 : goal.returns-in-92
returns-in-92 c = short_escape c.args.c 92 (inr (inl (c.in-92.is, refl)))

pub returns-in-47 : goal.returns-in-47
returns-in-47 c = short_escape c.args.c 47 (inr (inr (inl (c.in-47.is, refl))))

pub returns-in-98 : goal.returns-in-98
returns-in-98 c = short_escape c.args.c 8 (inr (inr (inr (inl (c.in-98.is, refl)))))

pub returns-in-102 : goal.returns-in-102
returns-in-102 c = short_escape c.args.c 12 (inr (inr (inr (inr (inl (c.in-102.is, refl))))))

pub returns-in-110 : goal.returns-in-110
returns-in-110 c = short_escape c.args.c 10 (inr (inr (inr (inr (inr (inl (c.in-110.is, refl)))))))

pub returns-in-114 : goal.returns-in-114
returns-in-114 c = short_escape c.args.c 13 (inr (inr (inr (inr (inr (inr (inl (c.in-114.is, refl))))))))

pub returns-in-116 : goal.returns-in-116
returns-in-116 c = short_escape c.args.c 9 (inr (inr (inr (inr (inr (inr (inr (c.in-116.is, refl))))))))

pub returns-in-117 : goal.returns-in-117
returns-in-117 c = (
  (λ t x. subst (λ (z : ℕ). Characters (92 ∷ z ∷ t) x ↔ Digits 4 0 t (λ (u : ℕ) (r : List ℕ). AfterUnit u r x)) (sym c.in-117.is) (unit_escape t x)),
  ends_first,
)

pub returns-in_default : goal.returns-in_default
returns-in_default c = λ t x. no_escape c.args.c t x (λ e. omega (arith, e)) (λ d h. omega (arith, h))
