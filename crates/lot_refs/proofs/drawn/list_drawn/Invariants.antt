use Rattle.std.proofs.Common.{◌≡◌, take}
use Rattle.lot_refs.specs.Drawn.{drawn_tables}
use Rattle.lot_refs.proofs.drawn.list_drawn.Given as goal

abbrev pub invariant-loop-comp : goal.invariant-loop-comp
invariant-loop-comp l = l.tables ≡ drawn_tables (take l.comp-index l.comps)
