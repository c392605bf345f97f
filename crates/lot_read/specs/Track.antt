-- What a property is over time, after the Lottie Specification 1.0, "Animated Property".
use Rattle.std.specs.Prelude.{Bool, false, List, [], ◌∷◌, Option, Some, None, codes, is_some, if◌then◌else◌}
use Rattle.lot_types.specs.declared.fault.FaultCode.TheVariants as code
use Rattle.lot_types.specs.declared.prop.Track.{Track}
use Rattle.lot_types.specs.declared.prop.Track.TheVariants.{Still, Moving}
use Rattle.lot_types.specs.declared.slot.SlotKind.{SlotKind}
use Rattle.lot_json.specs.declared.tree.json.Json.{Json, out-Json}
use Rattle.lot_json.specs.declared.tree.json.Json.TheOpen as tree
use Rattle.lot_json.specs.declared.tree.pointer.Step.{Step}
use Rattle.lot_json.specs.Lookup.{member}
use Rattle.lot_read.specs.declared.track.Absence.{Absence}
use Rattle.lot_read.specs.declared.track.Absence.TheVariants as absence
use Rattle.lot_read.specs.Findings.{Findings, Reader, Row, under, bad, good, ◌⊛◌, ◌also◌, ◌on◌}
use Rattle.lot_read.specs.Flag.{flag}
use Rattle.lot_read.specs.Keyframe.{keys}
use Rattle.lot_read.specs.Rows.{maybe}

-- The first item is an object that has a time.
abbrev pub begins_with_key : List Json → Bool
begins_with_key [] = false
begins_with_key (j ∷ js) = elim (out-Json j) [ tree.Members m ↦ is_some (member (codes "t") m.pairs) | _ ↦ false ]

unfoldable pub is_list_of_keys : Json → Bool
is_list_of_keys j = elim (out-Json j) [ tree.Items js ↦ begins_with_key js | _ ↦ false ]

-- A property moves where its flag is true, or is absent and `k` is a list of keyframes. One whose flag has a fault is
-- constant.
abbrev pub moves : Option (Option Bool) → Json → Bool
moves (Some (Some b)) k = b
moves (Some None) k = is_list_of_keys k
moves None k = false

abbrev pub still : {T : Type 0} → Reader T → Reader (Track T)
still value at k = good (λ x. Still x) ⊛ value at k

abbrev pub moving : {T : Type 0} → SlotKind → Reader T → Reader (Track T)
moving kind value at k = good (λ ks. Moving ks) ⊛ keys kind value at k

abbrev pub by_flag : {T : Type 0} → SlotKind → Reader T → Json → List Step → Option (Option Bool) → Findings (Track T)
by_flag kind value k at a = if moves a k then moving kind value at k else still value at k

-- The fault of a property without `k`.
abbrev pub absent : {T : Type 0} → Absence → List Step → Findings T
absent absence.Missing at = bad code.Missing (under at (codes "k"))
absent absence.NoValue at = bad code.NoValue at

-- The rows `k` and `a`, which a property that uses no slot and the value of a slot share.
unfoldable pub track : {T : Type 0} → SlotKind → Reader T → Absence → Row (Track T)
track kind value absence at m = elim (member (codes "k") m) [
  | None ↦ absent absence at also maybe (codes "a") flag at m
  | Some k ↦ maybe (codes "a") flag at m on by_flag kind value k (under at (codes "k"))
]
