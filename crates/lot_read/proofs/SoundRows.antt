-- Rows whose members are properties keep that what has no fault has a value.
use Rattle.std.proofs.Common.{ℕ, List}
use Rattle.lot_types.specs.declared.slot.SlotKind.{SlotKind}
use Rattle.lot_read.specs.Findings.{Reader}
use Rattle.lot_read.specs.PropertyRows.{needed_property}
use Rattle.lot_read.specs.SlotNames.{Names}
use Rattle.lot_read.specs.Sound.{ReadsSoundly, RowsAreSound}
use Rattle.lot_read.proofs.Sound.{needed_sound}
use Rattle.lot_read.proofs.SoundValues.{property_sound}

pub needed_property_sound : {T : Type 0} (kind : SlotKind) {value : Reader T} → ReadsSoundly value → (names : Names) (name : List ℕ)
    → RowsAreSound (needed_property kind value names name)
unfolding needed_property
needed_property_sound kind sound names name at m = needed_sound name (property_sound kind names sound) at m
