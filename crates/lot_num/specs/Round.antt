-- Rounding to the nearest whole number, and the range of numbers. The rules are this project's own.
use Rattle.std.specs.Prelude.{◌≡◌, ℕ, ℤ, pos, negsuc, neg_ℤ, int_lt, unsigned_abs, ◌+◌, ◌*◌, ◌/◌, ◌^◌, ◌≤◌, ◌-ℤ◌, ◌*ℤ◌, suc, if◌then◌else◌}

-- The whole number nearest to n / d, and of two equally near ones the greater.
abbrev pub nearest : ℕ → ℕ → ℕ
nearest n d = (2 * n + d) / (2 * d)

-- The whole number nearest to x / y: the nearest magnitude, below 0 where the signs differ.
abbrev pub rnd : ℤ → ℤ → ℤ
rnd (pos n) (pos d) = pos (nearest n d)
rnd (pos n) (negsuc d) = neg_ℤ (pos (nearest n (suc d)))
rnd (negsuc n) (pos d) = neg_ℤ (pos (nearest (suc n) d))
rnd (negsuc n) (negsuc d) = pos (nearest (suc n) (suc d))

-- No whole number is nearer to x / y than q, and none that is as near has a greater magnitude. The distance of p from
-- x / y, times the magnitude of y, is that of x - p * y.
pub record IsNearest (x y q : ℤ) : Type 0 where
  pub nearest : (p : ℤ) → unsigned_abs (x -ℤ q *ℤ y) ≤ unsigned_abs (x -ℤ p *ℤ y)
  pub away : (p : ℤ) → unsigned_abs (x -ℤ p *ℤ y) ≡ unsigned_abs (x -ℤ q *ℤ y)
      → unsigned_abs p ≤ unsigned_abs q

-- The greatest magnitude in range: ten million, in millionths.
abbrev pub max_millionths : ℕ
max_millionths = 10 ^ 13

-- The number of the range that is nearest to x.
abbrev pub limit : ℤ → ℤ
limit x =
    if int_lt x (neg_ℤ (pos max_millionths)) then neg_ℤ (pos max_millionths)
    else (if int_lt (pos max_millionths) x then pos max_millionths else x)

-- The product of two numbers of millionths, limited to the range.
abbrev pub product : ℤ → ℤ → ℤ
product a b = limit (rnd (a *ℤ b) (pos (10 ^ 6)))
