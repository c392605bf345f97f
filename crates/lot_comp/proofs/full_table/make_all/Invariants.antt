use Rattle.std.proofs.Common.{ℕ, ◌<◌, Some}
use Rattle.lot_comp.specs.FullTable.{AreFullIfMade, IsMade}
use Rattle.lot_comp.proofs.full_table.make_all.Given as goal

abbrev pub invariant-loop-l : goal.invariant-loop-l
invariant-loop-l l =
    AreFullIfMade l.d l.c l.t l.made.items × ((k : ℕ) → k < l.l → IsMade l.made.items (Some k))
