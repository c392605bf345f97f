-- The table has the marked names of the pairs up to here.
use Rattle.std.proofs.Common.{◌≡◌, ◌≤◌, take}
use Rattle.indexmap.specs.IndexMap.{index_map_len}
use Rattle.lot_read.specs.NameTable.{seen, marked_names}
use Rattle.lot_read.proofs.slot_names.walk.Given as goal

abbrev pub invariant-loop-index : goal.invariant-loop-index
invariant-loop-index l = (seen l.names.entries ≡ marked_names (take l.index l.pairs)) × (index_map_len l.names ≤ l.index)
