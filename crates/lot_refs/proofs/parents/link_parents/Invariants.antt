use Rattle.std.proofs.Common.{◌≡◌, take}
use Rattle.lot_refs.specs.Linked.{parent_tables}
use Rattle.lot_refs.proofs.parents.link_parents.Given as goal

abbrev pub invariant-loop-comp : goal.invariant-loop-comp
invariant-loop-comp l = l.tables ≡ parent_tables (take l.comp-index l.comps)
