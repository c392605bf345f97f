-- The sine, the cosine and the tangent of an angle in millionths of a degree. The polynomials and their rounding are
-- this project's own: the series of both about 0, as far as 45 degrees.
use Rattle.std.specs.Prelude.{ℕ, ℤ, pos, neg_ℤ, ◌+◌, ◌*◌, ◌/◌, ◌%◌, ◌^◌, ◌==◌, int_lt, unsigned_abs, ◌-ℤ◌, ◌*ℤ◌, if◌then◌else◌}
use Rattle.std.specs.Ordering.{int_eq}
use Rattle.std.specs.Int.{int_rem_euclid}
use Rattle.lot_num.specs.Round.{rnd, limit, max_millionths}

-- ---- the quarter of the turn, and the angle from its middle

-- Whole turns, and quarters of one, in millionths of a degree.
abbrev pub full_turn : ℕ
full_turn = 360 * 10 ^ 6

abbrev pub quarter_turn : ℕ
quarter_turn = 90 * 10 ^ 6

-- The angle without whole turns: from 0 to below one turn.
abbrev pub within_turn : ℤ → ℕ
within_turn a = unsigned_abs (int_rem_euclid a (pos full_turn))

-- The multiple of a quarter turn that is nearest to an angle within a turn, and of two equally near ones the greater:
-- from 0 to 4, where 4 is the whole turn.
abbrev pub nearest_quarter : ℕ → ℕ
nearest_quarter r = (r + 45 * 10 ^ 6) / quarter_turn

-- What is left of the angle after that multiple: from -45 to 45 degrees.
abbrev pub from_quarter : ℕ → ℤ
from_quarter r = pos r -ℤ pos (quarter_turn * nearest_quarter r)

-- ---- the series, where one is 10^12

abbrev pub unit : ℕ
unit = 10 ^ 12

-- The angle in parts of a radian, from one in millionths of a degree.
abbrev pub radians : ℤ → ℤ
radians d = rnd (d *ℤ pos 17453292519943295) (pos (10 ^ 12))

abbrev pub squared : ℤ → ℤ
squared y = rnd (y *ℤ y) (pos unit)

-- One less x / n.
abbrev pub one_less : ℤ → ℕ → ℤ
one_less x n = pos unit -ℤ rnd x (pos n)

-- The sine of y radians in millionths: y (1 - z/6 (1 - z/20 (1 - z/42 (1 - z/72)))) with z the square of y.
abbrev pub sine_factor : ℤ → ℤ
sine_factor z =
    let t9 = one_less z 72 in
    let t7 = one_less (z *ℤ t9) (42 * unit) in
    let t5 = one_less (z *ℤ t7) (20 * unit) in
    one_less (z *ℤ t5) (6 * unit)

unfoldable pub sine_near_zero : ℤ → ℤ
sine_near_zero y = rnd (rnd (y *ℤ sine_factor (squared y)) (pos unit)) (pos (10 ^ 6))

-- The cosine of y radians in millionths: 1 - z/2 (1 - z/12 (1 - z/30 (1 - z/56 (1 - z/90)))).
abbrev pub cosine_factor : ℤ → ℤ
cosine_factor z =
    let c10 = one_less z 90 in
    let c8 = one_less (z *ℤ c10) (56 * unit) in
    let c6 = one_less (z *ℤ c8) (30 * unit) in
    let c4 = one_less (z *ℤ c6) (12 * unit) in
    one_less (z *ℤ c4) (2 * unit)

unfoldable pub cosine_near_zero : ℤ → ℤ
cosine_near_zero y = rnd (cosine_factor (squared y)) (pos (10 ^ 6))

-- ---- the functions of any angle

-- The sine of a quarter number q and an angle from there whose sine is s and whose cosine is c.
abbrev pub sine_in : ℕ → ℤ → ℤ → ℤ
sine_in q s c = if q == 0 then s else if q == 1 then c else if q == 2 then neg_ℤ s else neg_ℤ c

abbrev pub cosine_in : ℕ → ℤ → ℤ → ℤ
cosine_in q s c = if q == 0 then c else if q == 1 then neg_ℤ s else if q == 2 then neg_ℤ c else s

-- The number of the quarter, from 0 to 3.
abbrev pub quarter_of : ℤ → ℕ
quarter_of a = nearest_quarter (within_turn a) % 4

-- The angle from the middle of its quarter, in radians.
abbrev pub radians_of : ℤ → ℤ
radians_of a = radians (from_quarter (within_turn a))

unfoldable pub sine : ℤ → ℤ
sine a = sine_in (quarter_of a) (sine_near_zero (radians_of a)) (cosine_near_zero (radians_of a))

unfoldable pub cosine : ℤ → ℤ
cosine a = cosine_in (quarter_of a) (sine_near_zero (radians_of a)) (cosine_near_zero (radians_of a))

-- The quotient of sine and cosine. Where the cosine is 0 it is the end of the range that has the sign of the sine.
abbrev pub tangent_of : ℤ → ℤ → ℤ
tangent_of s c =
    if int_eq c (pos 0) then (if int_lt s (pos 0) then neg_ℤ (pos max_millionths) else pos max_millionths)
    else limit (rnd (s *ℤ pos (10 ^ 6)) c)

unfoldable pub tangent : ℤ → ℤ
tangent a = tangent_of (sine a) (cosine a)
