-- The items that are copied are the first of the list.
use Rattle.std.proofs.Common.{◌≡◌, take}
use Rattle.lot_types.proofs.seq.SeqDuplicate.copy.Given as goal

abbrev pub invariant-loop-x : goal.invariant-loop-x
invariant-loop-x g l = l.made ≡ take l.x-index l.x-items
