-- The integer square root by its squares.
use Rattle.std.proofs.Common.{◌≡◌, ℕ, zero, suc, ◌+◌, ◌*◌, ◌<◌, ◌≤◌, arith, inl, inr}
use Rattle.std.proofs.Math.Nat.{mul-le-mul}
use Rattle.std.proofs.lemmas.Bool.{cases_lt, ltb-false, lt-ltb, le-ltb}
use Rattle.lot_num.specs.Root.{root, next_square_above}
use Rattle.lot_num.proofs.Least.{least_is, least_below}

self_below_square : (r : ℕ) → r ≤ r * r
self_below_square zero = omega arith
self_below_square (suc r) = omega arith

next_square_below : (k r : ℕ) → k < r → (k + 1) * (k + 1) ≤ r * r
next_square_below k r h = mul-le-mul (omega (arith, h)) (omega (arith, h))

pub root_is : (x r : ℕ) → r * r ≤ x → x < (r + 1) * (r + 1) → root x ≡ r
unfolding root
root_is x r square next =
    least_is (next_square_above x) x r (omega (arith, self_below_square r, square)) (lt-ltb _ _ next)
    (λ k lt. le-ltb _ _ (omega (arith, next_square_below k r lt, square)))

pub root_of_square : (n : ℕ) → root (n * n) ≡ n
root_of_square n = root_is (n * n) n (omega arith) (omega arith)

-- A bound of the square is one of the root.
pub root_small : (x n : ℕ) → x ≤ n * n → root x ≤ n
unfolding root
root_small x n h = elim (cases_lt n (root x)) [
  | inl less ↦ absurd (omega (arith, h, ltb-false _ _ (least_below (next_square_above x) x n less)))
  | inr more ↦ more
]
