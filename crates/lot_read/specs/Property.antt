-- A property: its own value, or the slot that it names. After the Lottie Specification 1.0, "Properties" and "Slots".
-- Expressions are left out.
use Rattle.std.specs.Prelude.{ℕ, List, [], ◌∷◌, Option, Some, None, codes}
use Rattle.lot_types.specs.declared.fault.FaultCode.TheVariants.{Kind, Unsupported}
use Rattle.lot_types.specs.declared.slot.SlotKind.{SlotKind}
use Rattle.lot_types.specs.declared.prop.Prop.{Prop}
use Rattle.lot_types.specs.declared.prop.Prop.TheVariants.{Own, Slot}
use Rattle.lot_types.specs.declared.prop.Track.{Track}
use Rattle.lot_json.specs.declared.tree.json.Json.{out-Json}
use Rattle.lot_json.specs.declared.tree.json.Json.TheOpen as tree
use Rattle.lot_json.specs.declared.tree.pointer.Step.{Step}
use Rattle.lot_json.specs.Pointer.{pointer_text}
use Rattle.lot_read.specs.declared.slot_name.SlotName.{SlotName}
use Rattle.lot_read.specs.declared.slot_name.SlotName.TheVariants.{Unnamed, Unknown, Known}
use Rattle.lot_read.specs.declared.track.Absence.TheVariants.{Missing, NoValue}
use Rattle.lot_read.specs.Findings.{Findings, Reader, Row, Pairs, under, good, bad, ◌⊛◌, ◌on◌}
use Rattle.lot_read.specs.Rows.{optional, object}
use Rattle.lot_read.specs.SlotNames.{Names, place_of}
use Rattle.lot_read.specs.Track.{track}

-- An expression is a text.
unfoldable pub no_expression : Reader (Unit {0})
no_expression at j = elim (out-Json j) [ tree.Text t ↦ bad Unsupported at | _ ↦ good tt ]

-- The slot that was found by its name.
abbrev pub slot_found : Option ℕ → SlotName
slot_found (Some slot) = Known slot
slot_found None = Unknown

-- The name of a slot.
unfoldable pub slot_name : Names → Reader SlotName
slot_name names at j = elim (out-Json j) [ tree.Text t ↦ good (slot_found (place_of t names)) | _ ↦ bad Kind at ]

-- The slot of this number, used as this kind at this place.
abbrev pub use_of_slot : {T : Type 0} → SlotKind → ℕ → List Step → Findings (Prop T)
use_of_slot kind slot at = record {
  faults = [];
  value = Some (Slot slot);
  uses = record { slot = slot; kind = kind; pointer = pointer_text at } ∷ [];
}

abbrev pub own : {T : Type 0} → Findings (Track T) → Findings (Prop T)
own found = good (λ t. Own t) ⊛ found

-- By the name of a slot; one that has a fault is none.
abbrev pub by_name : {T : Type 0} → SlotKind → Reader T → List Step → Pairs → Option SlotName → Findings (Prop T)
by_name kind value at m (Some (Known slot)) = use_of_slot kind slot (under at (codes "sid"))
by_name kind value at m (Some Unknown) = own (track kind value NoValue at m)
by_name kind value at m (Some Unnamed) = own (track kind value Missing at m)
by_name kind value at m None = own (track kind value Missing at m)

unfoldable pub property_rows : {T : Type 0} → SlotKind → Names → Reader T → Row (Prop T)
property_rows kind names value at m =
    good (λ _ p. p)
    ⊛ optional (codes "x") no_expression tt at m
    ⊛ (optional (codes "sid") (slot_name names) Unnamed at m on by_name kind value at m)

-- A property of a kind of values.
abbrev pub property : {T : Type 0} → SlotKind → Names → Reader T → Reader (Prop T)
property kind names value = object (property_rows kind names value)

-- The value of a slot: a property whose `sid` is not read.
unfoldable pub track_rows : {T : Type 0} → SlotKind → Reader T → Row (Track T)
track_rows kind value at m =
    good (λ _ t. t)
    ⊛ optional (codes "x") no_expression tt at m
    ⊛ track kind value Missing at m
