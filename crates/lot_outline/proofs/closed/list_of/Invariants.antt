use Rattle.std.proofs.Common.{◌≡◌, take}
use Rattle.lot_outline.proofs.closed.list_of.Given as goal

abbrev pub invariant-loop-seg : goal.invariant-loop-seg
invariant-loop-seg l = l.made ≡ take l.seg-index l.segs
