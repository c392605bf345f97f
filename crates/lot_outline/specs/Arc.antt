-- The quarters of circles and ellipses as cubic curves. The number is this project's own.
use Rattle.std.specs.Prelude.{ℤ, pos}
use Rattle.lot_num.specs.Round.{product}

-- The distance of a control point of a quarter from the nearer end, where the radius in that direction is r: 0.5519 r.
unfoldable pub arc_handle : ℤ → ℤ
arc_handle r = product r (pos 551900)
