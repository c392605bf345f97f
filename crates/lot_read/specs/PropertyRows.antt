-- Rows of tables whose members are properties.
use Rattle.std.specs.Prelude.{ℕ, List}
use Rattle.lot_types.specs.declared.prop.Prop.{Prop}
use Rattle.lot_types.specs.declared.slot.SlotKind.{SlotKind}
use Rattle.lot_read.specs.Findings.{Reader, Row}
use Rattle.lot_read.specs.Property.{property}
use Rattle.lot_read.specs.Rows.{needed}
use Rattle.lot_read.specs.SlotNames.{Names}

-- A property that has to be there.
unfoldable pub needed_property : {T : Type 0} → SlotKind → Reader T → Names → List ℕ → Row (Prop T)
needed_property kind value names name at m = needed name (property kind names value) at m
