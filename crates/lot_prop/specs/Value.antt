-- The value of a property at a time, after the Lottie Specification 1.0, "Animated Property". Where the list of
-- keyframes is empty there is none.
use Rattle.std.specs.Prelude.{ℤ, ◌==◌, List, [], ◌∷◌, Option, Some, None, length, if◌then◌else◌}
use Rattle.lot_types.specs.declared.key.Key.{Key}
use Rattle.lot_types.specs.declared.point.Point.{Point}
use Rattle.lot_types.specs.declared.color.Color.{Color}
use Rattle.lot_types.specs.declared.prop.Track.{Track}
use Rattle.lot_types.specs.declared.prop.Track.TheVariants.{Still, Moving}
use Rattle.lot_types.specs.Curve.{Curve}
use Rattle.lot_types.specs.Ramp.{Ramp}
use Rattle.lot_prop.specs.InForce.{in_force, first_of}
use Rattle.lot_prop.specs.Eased.{Part, part_at, eased}
use Rattle.lot_prop.specs.Spatial.{is_spatial, on_curve}

-- What lies between the values of a keyframe and of the next.
abbrev pub Between : Type 0 → Type 0
Between A = Part → A → A → A

abbrev pub scalar_between : Between ℤ
scalar_between part x y = eased 0 part x y

-- Each coordinate by itself.
abbrev pub straight_between : Between Point
straight_between part p q = record { x = eased 0 part p.x q.x; y = eased 1 part p.y q.y }

-- A vector moves along a curve where its keyframe has tangents.
abbrev pub vector_between : Between Point
vector_between part p q = if is_spatial part then on_curve part p q else straight_between part p q

abbrev pub color_between : Between Color
color_between part c d = record { r = eased 0 part c.r d.r; g = eased 1 part c.g d.g; b = eased 2 part c.b d.b }

-- The numbers of lists move by the first component.
abbrev pub numbers_between : Between (List ℤ)
numbers_between part [] ys = []
numbers_between part (x ∷ xs) [] = []
numbers_between part (x ∷ xs) (y ∷ ys) = eased 0 part x y ∷ numbers_between part xs ys

abbrev pub points_between : Between (List Point)
points_between part [] qs = []
points_between part (p ∷ ps) [] = []
points_between part (p ∷ ps) (q ∷ qs) =
    record { x = eased 0 part p.x q.x; y = eased 0 part p.y q.y } ∷ points_between part ps qs

-- A path of another number of vertices is held.
abbrev pub bezier_between : Between Curve
bezier_between part a b =
    if length a.v == length b.v
    then record {
      closed = a.closed;
      v = points_between part a.v b.v;
      i = points_between part a.i b.i;
      o = points_between part a.o b.o;
    }
    else a

-- A gradient of another number of numbers is held.
abbrev pub gradient_between : Between Ramp
gradient_between part a b =
    if length a.flat == length b.flat
    then record { stops = a.stops; flat = numbers_between part a.flat b.flat }
    else a

-- A keyframe that is the last or holds has its own value until the next.
abbrev pub from_key : {A : Type 0} → Between A → ℤ → Key A → Option (Key A) → A
from_key between t key None = key.value
from_key between t key (Some next) =
    if key.hold then key.value else between (part_at key next t) key.value next.value

abbrev pub value_of_key : {A : Type 0} → Option (Key A) → Option A
value_of_key None = None
value_of_key (Some key) = Some key.value

-- Before the time of the first keyframe a property has that keyframe's value.
abbrev pub keys_value : {A : Type 0} → Between A → ℤ → List (Key A) → Option A
keys_value between t keys = elim (in_force t keys) [
  | None ↦ value_of_key (first_of keys)
  | Some found ↦ Some (from_key between t found.key found.next)
]

abbrev pub track_value : {A : Type 0} → Between A → ℤ → Track A → Option A
track_value between t (Still x) = Some x
track_value between t (Moving keys) = keys_value between t keys
