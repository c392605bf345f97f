-- How large products are.
use Rattle.std.proofs.Common.{◌≤◌, ◌*◌, ◌*ℤ◌, ℕ, ℤ, unsigned_abs, subst, sym, mul-le-mul}
use Rattle.std.proofs.lemmas.Int.{unsigned_abs-mul}

-- A product is at most the product of bounds of its factors.
pub product_small : (x y : ℤ) (m n : ℕ) → unsigned_abs x ≤ m → unsigned_abs y ≤ n → unsigned_abs (x *ℤ y) ≤ m * n
product_small x y m n p q = subst (λ k. k ≤ m * n) (sym (unsigned_abs-mul x y)) (mul-le-mul p q)
