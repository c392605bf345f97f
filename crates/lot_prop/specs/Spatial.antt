-- Vectors that move along a curve through space, after the Lottie Specification 1.0, "Keyframes". How its length is
-- measured is this project's own.
use Rattle.std.specs.Prelude.{ℤ, pos, ◌^◌, Bool, not, ◌&&◌}
use Rattle.std.specs.Ordering.{int_eq}
use Rattle.lot_geom.specs.Along.{along}
use Rattle.lot_geom.specs.Offset.{moved}
use Rattle.lot_geom.specs.declared.cubic.Cubic.{Cubic}
use Rattle.lot_types.specs.declared.point.Point.{Point}
use Rattle.lot_prop.specs.Eased.{Part, eased}

abbrev pub is_zero : Point → Bool
is_zero p = int_eq p.x (pos 0) && int_eq p.y (pos 0)

-- A keyframe has a tangent that is not 0.
abbrev pub is_spatial : Part → Bool
is_spatial part = not (is_zero part.to && is_zero part.ti)

-- The curve from the value p of a keyframe to that of the next, q.
abbrev pub curve_from : Part → Point → Point → Cubic
curve_from part p q = record { p0 = p; p1 = moved p part.to; p2 = moved q part.ti; p3 = q }

-- The fraction of its length, in millionths: a number that goes from 0 to 1 as the first component does. It may be
-- below 0 or above 1.
abbrev pub progress : Part → ℤ
progress part = eased 0 part (pos 0) (pos (10 ^ 6))

-- The point at that fraction, which is limited to 0 to 1.
abbrev pub on_curve : Part → Point → Point → Point
on_curve part p q = along (curve_from part p q) (progress part)
