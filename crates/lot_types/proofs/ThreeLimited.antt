use Rattle.std.proofs.Common.{◌≡◌, ℤ, pos, List, [], ◌∷◌, length, get_or, map, arith}
use Rattle.std.proofs.lemmas.List.Elements.{All-nil, All-cons}
use Rattle.std.specs.List.{All}
use Rattle.lot_types.specs.Handles.{nearest_in, IsIn}

pub three_limited : (range : ℤ × ℤ) (xs : List ℤ) (a b c : ℤ) → length xs ≡ 3
    → a ≡ nearest_in range (get_or xs 0 (pos 0)) → b ≡ nearest_in range (get_or xs 1 (pos 0)) → c ≡ nearest_in range (get_or xs 2 (pos 0))
    → a ∷ b ∷ c ∷ [] ≡ map (nearest_in range) xs
three_limited range (x ∷ y ∷ z ∷ []) a b c h p q r = cc
three_limited range [] a b c h p q r = absurd (omega (arith, h))
three_limited range (x ∷ []) a b c h p q r = absurd (omega (arith, h))
three_limited range (x ∷ y ∷ []) a b c h p q r = absurd (omega (arith, h))
three_limited range (x ∷ y ∷ z ∷ w ∷ v) a b c h p q r = absurd (omega (arith, h))

pub three_in : (range : ℤ × ℤ) (a b c : ℤ) → IsIn range a → IsIn range b → IsIn range c → All (IsIn range) (a ∷ b ∷ c ∷ [])
three_in range a b c p q r =
    All-cons (IsIn range) a (b ∷ c ∷ []) p (All-cons (IsIn range) b (c ∷ []) q (All-cons (IsIn range) c [] r (All-nil (IsIn range))))
