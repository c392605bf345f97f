-- Keyframes, after the Lottie Specification 1.0, "Keyframes".
use Rattle.std.specs.Prelude.{ℤ, pos, int_lt, ◌≤ℤ◌, ℕ, ◌+◌, Bool, false, List, [], ◌∷◌, Option, Some, None, codes, if◌then◌else◌}
use Rattle.lot_types.specs.declared.fault.FaultCode.TheVariants.{Kind, Count, Order, Unsupported}
use Rattle.lot_types.specs.declared.key.Key.{Key}
use Rattle.lot_types.specs.declared.point.Point.{Point}
use Rattle.lot_types.specs.declared.slot.SlotKind.{SlotKind}
use Rattle.lot_types.specs.declared.slot.SlotKind.TheVariants as slot_kind
use Rattle.lot_types.specs.Handles.{Handles}
use Rattle.lot_json.specs.declared.tree.json.Json.{Json, out-Json}
use Rattle.lot_json.specs.declared.tree.json.Json.TheOpen as tree
use Rattle.lot_json.specs.declared.tree.pointer.Step.{Step}
use Rattle.lot_json.specs.Lookup.{member}
use Rattle.lot_read.specs.declared.keyframe.Tangents.{Tangents}
use Rattle.lot_read.specs.Findings.{Findings, Reader, Row, under, item, good, bad, ◌⊛◌, ◌then◌}
use Rattle.lot_read.specs.Flag.{flag}
use Rattle.lot_read.specs.Handle.{handle_rows}
use Rattle.lot_read.specs.Lists.{at_most}
use Rattle.lot_types.specs.Limits.{max_list_items}
use Rattle.lot_read.specs.Number.{any, number}
use Rattle.lot_read.specs.Rows.{needed, optional, maybe, object}
use Rattle.lot_read.specs.Vector.{vector}

-- A time is not below that of the keyframe before, where that has no fault.
abbrev pub not_before : Option ℤ → List Step → ℤ → Findings ℤ
not_before (Some before) at t = if int_lt t before then bad Order (under at (codes "t")) else good t
not_before None at t = good t

-- The time of a keyframe.
unfoldable pub time_rows : Option ℤ → Row ℤ
time_rows before at m = needed (codes "t") (number any) at m then not_before before at

-- The time of a keyframe that has no fault in it.
abbrev pub time_of : Option ℤ → List Step → Json → Option ℤ
time_of before at j = (object (time_rows before) at j).value

-- The time of a keyframe is at least that of the keyframe before, where that is known.
abbrev pub IsNotBefore : Option ℤ → ℤ → Type 0
IsNotBefore (Some before) t = before ≤ℤ t
IsNotBefore None t = Unit {0}

-- The value of a keyframe has to be there.
unfoldable pub start_value : {T : Type 0} → Reader T → Row T
start_value value at m = elim (member (codes "s") m) [
  | None ↦ bad Unsupported at
  | Some j ↦ value (under at (codes "s")) j
]

-- A keyframe is eased where it has both handles.
abbrev pub both_handles : Option Handles → Option Handles → Option (Handles × Handles)
both_handles (Some o) (Some i) = Some (o, i)
both_handles (Some o) None = None
both_handles None i = None

-- The handles of the easing after a keyframe.
unfoldable pub ease_rows : Row (Option (Handles × Handles))
ease_rows at m =
    good (λ o i. both_handles o i)
    ⊛ maybe (codes "o") (object handle_rows) at m
    ⊛ maybe (codes "i") (object handle_rows) at m

abbrev pub no_tangent : Point
no_tangent = record { x = pos 0; y = pos 0 }

-- A tangent of the curve through space: vectors alone have one.
unfoldable pub space_tangent : SlotKind → List ℕ → Row Point
space_tangent slot_kind.Vector name at m = optional name vector no_tangent at m
space_tangent slot_kind.Unused name at m = good no_tangent
space_tangent slot_kind.Scalar name at m = good no_tangent
space_tangent slot_kind.Color name at m = good no_tangent
space_tangent slot_kind.Bezier name at m = good no_tangent
space_tangent (slot_kind.Gradient stops) name at m = good no_tangent

-- The tangents of the curve through space: the one that leaves a keyframe, and the one that reaches the next.
unfoldable pub tangent_rows : SlotKind → Row Tangents
tangent_rows kind at m =
    good (λ to ti. record { to = to; ti = ti })
    ⊛ space_tangent kind (codes "to") at m
    ⊛ space_tangent kind (codes "ti") at m

abbrev pub key_of : {T : Type 0} → ℤ → T → Bool → Option (Handles × Handles) → Tangents → Key T
key_of t s h ease tangents = record { t = t; value = s; hold = h; ease = ease; to = tangents.to; ti = tangents.ti }

unfoldable pub key_rows : {T : Type 0} → SlotKind → Reader T → Option ℤ → Row (Key T)
key_rows kind value before at m =
    good (λ t s h ease tangents. key_of t s h ease tangents)
    ⊛ time_rows before at m
    ⊛ start_value value at m
    ⊛ optional (codes "h") flag false at m
    ⊛ ease_rows at m
    ⊛ tangent_rows kind at m

-- Every keyframe in order, the first of which has the index i and comes after one of this time.
unfoldable pub each_key : {T : Type 0} → SlotKind → Reader T → Option ℤ → List Step → ℕ → List Json
    → Findings (List (Key T))
each_key kind value before at i [] = good []
each_key kind value before at i (j ∷ js) =
    good (λ x xs. x ∷ xs)
    ⊛ object (key_rows kind value before) (item at i) j
    ⊛ each_key kind value (time_of before (item at i) j) at (i + 1) js

-- There is at least one keyframe.
abbrev pub some_items : List Step → List Json → Findings (Unit {0})
some_items at [] = bad Count at
some_items at (j ∷ js) = good tt

-- The keyframes of a property that moves.
unfoldable pub keys : {T : Type 0} → SlotKind → Reader T → Reader (List (Key T))
keys kind value at j = elim (out-Json j) [
  | tree.Items js ↦
      good (λ _ _ ks. ks)
      ⊛ at_most max_list_items at js
      ⊛ some_items at js
      ⊛ each_key kind value None at 0 js
  | _ ↦ bad Kind at
]
