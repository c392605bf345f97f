-- The values of positions and transforms at a time, after the Lottie Specification 1.0, "Transform". One whose property
-- has no value has none.
use Rattle.std.specs.Prelude.{ℤ, pos, ◌*◌, ◌^◌, int_lt, Option, Some, None, option_map, option_and_then, if◌then◌else◌}
use Rattle.lot_geom.specs.Matrix.{transform_matrix}
use Rattle.lot_num.specs.Round.{rnd, limit}
use Rattle.lot_types.specs.declared.doc.Doc.{Doc}
use Rattle.lot_types.specs.declared.matrix.Matrix.{Matrix}
use Rattle.lot_types.specs.declared.point.Point.{Point}
use Rattle.lot_types.specs.declared.prop.Position.{Position}
use Rattle.lot_types.specs.declared.prop.Position.TheVariants.{Whole, Split}
use Rattle.lot_types.specs.declared.prop.Prop.{Prop}
use Rattle.lot_types.specs.declared.transform.Transform.{Transform}
use Rattle.lot_prop.specs.Slots.{scalar_value, vector_value}

-- The point of two coordinates, where there are both.
abbrev pub point_of : Option ℤ → Option ℤ → Option Point
point_of (Some x) (Some y) = Some (record { x = x; y = y })
point_of (Some x) None = None
point_of None y = None

unfoldable pub position_value : Doc → Position → ℤ → Option Point
position_value d (Whole p) t = vector_value d p t
position_value d (Split x y) t = point_of (scalar_value d x t) (scalar_value d y t)

-- The matrix of a transform at a time.
unfoldable pub own_matrix : Doc → Transform → ℤ → Option Matrix
own_matrix d ks t =
    option_and_then (λ a. option_and_then (λ p. option_and_then (λ s. option_and_then (λ r. option_and_then (λ sk.
    option_map (λ sa. transform_matrix a p s r sk sa)
    (scalar_value d ks.sa t)) (scalar_value d ks.sk t)) (scalar_value d ks.r t)) (vector_value d ks.s t))
    (position_value d ks.p t)) (vector_value d ks.a t)

-- 100 per cent, in millionths.
abbrev pub whole_percent : ℤ
whole_percent = pos (100 * 10 ^ 6)

-- The nearest number to o from 0 to 100 per cent, in millionths.
abbrev pub percent_in_range : ℤ → ℤ
percent_in_range o = if int_lt o (pos 0) then pos 0 else (if int_lt whole_percent o then whole_percent else o)

-- The opacity as a fraction, from one in per cent.
abbrev pub opacity_fraction : ℤ → ℤ
opacity_fraction o = limit (rnd (percent_in_range o) (pos 100))

unfoldable pub opacity_value : Doc → Prop ℤ → ℤ → Option ℤ
opacity_value d p t = option_map opacity_fraction (scalar_value d p t)
