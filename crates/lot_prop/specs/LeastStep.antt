-- The step of the easing grid at a part of the time, as a function.
use Rattle.std.specs.Prelude.{ℕ, ℤ, pos, ◌*◌, ◌^◌, ◌*ℤ◌, Bool, int_le}
use Rattle.lot_num.specs.Easing.{curve, cube, grid_steps}
use Rattle.lot_num.specs.Least.{least}

-- At the g-th step the curve, whose control points have the x coordinates a and b, is at num / den or after it.
abbrev pub reaches : ℤ → ℤ → ℤ → ℤ → ℕ → Bool
reaches a b num den g = int_le (pos (10 ^ 6 * cube grid_steps) *ℤ num) (curve a b g *ℤ den)

-- The least step at which it is. The last step is at the end of the time, so that there is one.
unfoldable pub least_step : ℤ → ℤ → ℤ → ℤ → ℕ
least_step a b num den = least (reaches a b num den) grid_steps
