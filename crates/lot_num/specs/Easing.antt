-- The easing of a value between two keyframes by a cubic curve, after the Lottie Specification 1.0, "Keyframe Easing".
-- That the curve is taken at the steps of a grid is this project's own.
use Rattle.std.specs.Prelude.{ℕ, ℤ, pos, neg_ℤ, ◌-◌, ◌*◌, ◌^◌, ◌<◌, ◌≤◌, ◌≤ℤ◌, ◌<ℤ◌, ◌+ℤ◌, ◌-ℤ◌, ◌*ℤ◌}
use Rattle.lot_num.specs.Round.{rnd, limit}

-- A control point of the curve, in millionths: x is a part of the time, and y a part of the change.
pub record ControlPoint : Type 0 where
  pub x : ℤ
  pub y : ℤ

-- x is from 0 to 1, and y from -100 to 100.
pub record IsHandle (x y : ℤ) : Type 0 where
  pub time_from : pos 0 ≤ℤ x
  pub time_to : x ≤ℤ pos (10 ^ 6)
  pub change_from : neg_ℤ (pos (10 ^ 8)) ≤ℤ y
  pub change_to : y ≤ℤ pos (10 ^ 8)

-- num / den is a part of the time between two keyframes, which is at most that from one end of the range to the other.
pub record IsPart (num den : ℤ) : Type 0 where
  pub from : pos 0 ≤ℤ num
  pub to : num ≤ℤ den
  pub positive : pos 0 <ℤ den
  pub short : den ≤ℤ pos (2 * 10 ^ 13)

-- The number of steps of the grid.
abbrev pub grid_steps : ℕ
grid_steps = 65536

abbrev pub square : ℕ → ℕ
square n = n * n

abbrev pub cube : ℕ → ℕ
cube n = n * n * n

-- A coordinate of the curve at the g-th step, in millionths, times the cube of the number of steps. The curve begins at
-- 0 and ends at 1; a and b are the coordinates of its control points, in millionths.
abbrev pub curve : ℤ → ℤ → ℕ → ℤ
curve a b g =
    a *ℤ pos (3 * g * square (grid_steps - g)) +ℤ b *ℤ pos (3 * square g * (grid_steps - g)) +ℤ pos (10 ^ 6 * cube g)

-- At the g-th step the curve, whose control points have the x coordinates a and b, is at num / den or after it.
abbrev pub Reaches : ℤ → ℤ → ℤ → ℤ → ℕ → Type 0
Reaches a b num den g = (pos (10 ^ 6 * cube grid_steps) *ℤ num) ≤ℤ (curve a b g *ℤ den)

-- The least step at which it is.
pub record IsLeast (a b num den : ℤ) (g : ℕ) : Type 0 where
  pub within : g ≤ grid_steps
  pub reaches : Reaches a b num den g
  pub least : (k : ℕ) → k < g → Reaches a b num den k → ⊥

-- The y coordinate of the curve at the g-th step, in millionths.
abbrev pub height : ℤ → ℤ → ℕ → ℤ
height a b g = rnd (curve a b g) (pos (cube grid_steps))

-- The number at the part num / den of the line from s0 to s1, limited to the range.
abbrev pub between : ℤ → ℤ → ℤ → ℤ → ℤ
between s0 s1 num den = limit (s0 +ℤ rnd ((s1 -ℤ s0) *ℤ num) den)
