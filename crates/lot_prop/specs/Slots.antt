-- The values of the five kinds of properties at a time. A property whose slot is not there or is of another kind has
-- none.
use Rattle.std.specs.Prelude.{ℤ, Option, Some, None}
use Rattle.lot_types.specs.declared.point.Point.{Point}
use Rattle.lot_types.specs.declared.color.Color.{Color}
use Rattle.lot_types.specs.declared.prop.Track.{Track}
use Rattle.lot_types.specs.declared.prop.Prop.{Prop}
use Rattle.lot_types.specs.declared.doc.Doc.{Doc}
use Rattle.lot_types.specs.Curve.{Curve}
use Rattle.lot_types.specs.Ramp.{Ramp}
use Rattle.lot_types.specs.PropertyValues.{PropertyValues}
use Rattle.lot_types.specs.Slots.{scalar_in, vector_in, color_in, bezier_in, gradient_in, track_of}
use Rattle.lot_prop.specs.Value.{Between, scalar_between, vector_between, color_between, bezier_between, gradient_between, track_value}

abbrev pub value_in : {A : Type 0} → Between A → ℤ → Option (Track A) → Option A
value_in between t None = None
value_in between t (Some track) = track_value between t track

unfoldable pub scalar_value : Doc → Prop ℤ → ℤ → Option ℤ
scalar_value d p t = value_in scalar_between t (track_of scalar_in d p)

unfoldable pub vector_value : Doc → Prop Point → ℤ → Option Point
vector_value d p t = value_in vector_between t (track_of vector_in d p)

unfoldable pub color_value : Doc → Prop Color → ℤ → Option Color
color_value d p t = value_in color_between t (track_of color_in d p)

unfoldable pub bezier_value : Doc → Prop Curve → ℤ → Option Curve
bezier_value d p t = value_in bezier_between t (track_of bezier_in d p)

unfoldable pub gradient_value : Doc → Prop Ramp → ℤ → Option Ramp
gradient_value d p t = value_in gradient_between t (track_of gradient_in d p)

-- The values of scalars, vectors and paths, as this crate evaluates them.
abbrev pub evaluated : PropertyValues
evaluated = record { scalar = scalar_value; vector = vector_value; bezier = bezier_value }
