-- A number between two keyframes, after the Lottie Specification 1.0, "Keyframe Easing". The grid and the rounding are
-- this project's own.
use Rattle.std.specs.Prelude.{ℕ, ℤ, pos, ◌^◌, ◌+ℤ◌, ◌-ℤ◌, ◌*ℤ◌, List, Option, Some, None, slice_index_or}
use Rattle.lot_num.specs.Round.{rnd, limit}
use Rattle.lot_num.specs.Easing.{between, height}
use Rattle.lot_types.specs.Handles.{Handles}
use Rattle.lot_types.specs.declared.key.Key.{Key}
use Rattle.lot_types.specs.declared.point.Point.{Point}
use Rattle.lot_prop.specs.LeastStep.{least_step}

-- A part of the time between two keyframes: num of den millionths of a frame, and the handles of the easing, if there
-- are any: that out of the keyframe, and that into the next. `to` and `ti` are the tangents of the keyframe.
pub record Part : Type 0 where
  pub num : ℤ
  pub den : ℤ
  pub ease : Option (Handles × Handles)
  pub to : Point
  pub ti : Point

-- The part from a keyframe to the next at the time t.
abbrev pub part_at : {A : Type 0} → Key A → Key A → ℤ → Part
part_at key next t = record {
  num = t -ℤ key.t;
  den = next.t -ℤ key.t;
  ease = key.ease;
  to = key.to;
  ti = key.ti;
}

-- The coordinate of a component. There are three coordinates, so that the 0 after them is not reached.
abbrev pub component : ℕ → List ℤ → ℤ
component c coordinates = slice_index_or coordinates c (pos 0)

-- The fraction of the change that a component makes by the handles o and i.
abbrev pub fraction : ℕ → Handles → Handles → ℤ → ℤ → ℤ
fraction c o i num den =
    height (component c o.y) (component c i.y) (least_step (component c o.x) (component c i.x) num den)

-- The number at a fraction of the change from s0 to s1, limited to the range.
abbrev pub at_fraction : ℤ → ℤ → ℤ → ℤ
at_fraction s0 s1 f = limit (s0 +ℤ rnd ((s1 -ℤ s0) *ℤ f) (pos (10 ^ 6)))

-- The number of a component c that goes from s0 to s1.
abbrev pub eased : ℕ → Part → ℤ → ℤ → ℤ
eased c part s0 s1 = elim part.ease [
  | None ↦ between s0 s1 part.num part.den
  | Some handles ↦ at_fraction s0 s1 (fraction c handles.0 handles.1 part.num part.den)
]
