-- The weights of the control points are small.
use Rattle.std.proofs.Common.{ℕ, ◌-◌, ◌*◌, ◌^◌, ◌<◌, ◌≤◌, arith}
use Rattle.std.proofs.lemmas.Nat.{mul-le, mul-lt}
use Rattle.lot_num.specs.Easing.{cube, grid_steps}
use Rattle.lot_geom.specs.Cubic.{AreSmall, weight0, weight1, weight2, weight3}

product_small : (a b c : ℕ) → a ≤ 2 ^ 16 → b ≤ 2 ^ 16 → c ≤ 2 ^ 16 → a * b * c ≤ 2 ^ 48
product_small a b c p q r = omega (arith, mul-le (a * b) c (2 ^ 32) (2 ^ 16) (omega (arith, mul-le a b (2 ^ 16) (2 ^ 16) p q)) r)

cube_positive : (n : ℕ) → 0 < n → 0 < cube n
cube_positive n h = mul-lt 0 0 (n * n) n (mul-lt 0 0 n n h h) h

pub first_small : (n u v w : ℕ) → n ≤ grid_steps → weight0 n u v w ≤ 2 ^ 48
first_small n u v w few = product_small (n - u) (n - v) (n - w) (omega (arith, few)) (omega (arith, few)) (omega (arith, few))

pub second_small : (n u v w : ℕ) → n ≤ grid_steps → u ≤ n → v ≤ n → w ≤ n → weight1 n u v w ≤ 3 * 2 ^ 48
second_small n u v w few first second third =
    omega (
      arith,
      product_small u (n - v) (n - w) (omega arith) (omega arith) (omega arith),
      product_small (n - u) v (n - w) (omega arith) (omega arith) (omega arith),
      product_small (n - u) (n - v) w (omega arith) (omega arith) (omega arith),
    )

pub third_small : (n u v w : ℕ) → n ≤ grid_steps → u ≤ n → v ≤ n → w ≤ n → weight2 n u v w ≤ 3 * 2 ^ 48
third_small n u v w few first second third =
    omega (
      arith,
      product_small u v (n - w) (omega arith) (omega arith) (omega arith),
      product_small u (n - v) w (omega arith) (omega arith) (omega arith),
      product_small (n - u) v w (omega arith) (omega arith) (omega arith),
    )

pub are_small : (n u v w : ℕ) → 0 < n → n ≤ grid_steps → u ≤ n → v ≤ n → w ≤ n
    → AreSmall (weight0 n u v w) (weight1 n u v w) (weight2 n u v w) (weight3 u v w) (cube n)
are_small n u v w some few first second third = record {
  first = omega (arith, first_small n u v w few);
  second = omega (arith, second_small n u v w few first second third);
  third = omega (arith, third_small n u v w few first second third);
  fourth = omega (arith, product_small u v w (omega arith) (omega arith) (omega arith));
  some = cube_positive n some;
  few = omega (arith, product_small n n n (omega arith) (omega arith) (omega arith));
}
