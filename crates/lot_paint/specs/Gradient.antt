-- The ink of gradients, after the Lottie Specification 1.0, "Gradient". Points are in the space of the style. The
-- rounding and the limits are this project's own.
use Rattle.std.specs.Prelude.{ℕ, ℤ, pos, neg_ℤ, ◌+◌, ◌*◌, ◌^◌, ◌==◌, ◌+ℤ◌, ◌-ℤ◌, ◌*ℤ◌, List, Option, Some, None, option_map, if◌then◌else◌}
use Rattle.lot_geom.specs.Chords.{square_of}
use Rattle.lot_geom.specs.Matrix.{mapped, rotation}
use Rattle.lot_num.specs.Root.{root}
use Rattle.lot_num.specs.Round.{rnd, limit}
use Rattle.lot_prop.specs.Slots.{scalar_value, vector_value, gradient_value}
use Rattle.lot_types.specs.declared.doc.Doc.{Doc}
use Rattle.lot_types.specs.declared.ink.Ink.{Ink}
use Rattle.lot_types.specs.declared.ink.Ink.TheVariants.{Linear, Radial}
use Rattle.lot_types.specs.declared.point.Point.{Point}
use Rattle.lot_types.specs.declared.prop.Prop.{Prop}
use Rattle.lot_types.specs.declared.stop.Stop.{Stop}
use Rattle.lot_types.specs.declared.stops.Stops.{Stops}
use Rattle.lot_types.specs.Handles.{nearest_in}
use Rattle.lot_types.specs.Slots.{HasScalar, HasVector, HasGradient}
use Rattle.lot_paint.specs.Stops.{merged_stops}

-- From the center of a radial gradient to the point that gives its radius.
unfoldable pub radius_vector : Point → Point → Point
radius_vector s e = record { x = limit (e.x -ℤ s.x); y = limit (e.y -ℤ s.y) }

-- The length of a vector, rounded down.
unfoldable pub vector_length : Point → ℤ
vector_length d = limit (pos (root (square_of d.x + square_of d.y)))

-- The ends of what a highlight may be, in per cent of the radius.
abbrev pub highlights : ℤ × ℤ
highlights = (neg_ℤ (pos (99 * 10 ^ 6)), pos (99 * 10 ^ 6))

-- The distance of the focus from the center, as a fraction of the radius.
abbrev pub highlight_fraction : ℤ → ℤ
highlight_fraction h = rnd (nearest_in highlights h) (pos 100)

-- A coordinate of the focus, where `by` is that of the radius vector after its turn.
abbrev pub focus_coordinate : ℤ → ℤ → ℤ → ℤ
focus_coordinate center h by = limit (center +ℤ rnd (highlight_fraction h *ℤ by) (pos (10 ^ 6)))

-- The focus of a radial gradient about the center s: on the radius vector d, turned by the angle a, clockwise where
-- that is positive.
unfoldable pub focus_of : Point → Point → ℤ → ℤ → Point
focus_of s d h a =
    let turned = mapped (rotation a) d in
    record { x = focus_coordinate s.x h turned.x; y = focus_coordinate s.y h turned.y }

abbrev pub linear_with : Option Point → Option Point → Option (List Stop) → Option Ink
linear_with (Some s) (Some e) (Some stops) = Some (Linear s e stops)
linear_with (Some s) (Some e) None = None
linear_with (Some s) None stops = None
linear_with None e stops = None

unfoldable pub radial : Point → Point → ℤ → ℤ → List Stop → Ink
radial s e h a stops =
    Radial s (vector_length (radius_vector s e)) (focus_of s (radius_vector s e) h a) stops

abbrev pub radial_with :
    Option Point → Option Point → Option ℤ → Option ℤ → Option (List Stop) → Option Ink
radial_with (Some s) (Some e) (Some h) (Some a) (Some stops) = Some (radial s e h a stops)
radial_with (Some s) (Some e) (Some h) (Some a) None = None
radial_with (Some s) (Some e) (Some h) None stops = None
radial_with (Some s) (Some e) None a stops = None
radial_with (Some s) None h a stops = None
radial_with None e h a stops = None

-- The properties of a gradient have values in the document.
pub record HasGradientValues (d : Doc) (s e : Prop Point) (g : Stops) (h a : Prop ℤ) : Type 0 where
  pub start : HasVector d s
  pub end : HasVector d e
  pub stops : HasGradient d g.k
  pub highlight : HasScalar d h
  pub angle : HasScalar d a

abbrev pub merged_value : Doc → Stops → ℤ → Option (List Stop)
merged_value d g t = option_map merged_stops (gradient_value d g.k t)

-- The ink of a gradient of a kind at a time: 1 linear, 2 radial. A number that is none of them counts as 2.
unfoldable pub gradient_ink : Doc → ℤ → Prop Point → Prop Point → ℕ → Stops → Prop ℤ → Prop ℤ → Option Ink
gradient_ink d t s e kind g h a =
    if kind == 1 then linear_with (vector_value d s t) (vector_value d e t) (merged_value d g t)
    else
    radial_with (vector_value d s t) (vector_value d e t) (scalar_value d h t) (scalar_value d a t)
    (merged_value d g t)
