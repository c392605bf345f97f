-- The curves before this one are mapped.
use Rattle.std.proofs.Common.{◌≡◌, map, take}
use Rattle.lot_paint.specs.Contours.{mapped_seg}
use Rattle.lot_paint.proofs.mapped.mapped_segs.Given as goal

abbrev pub invariant-loop-s : goal.invariant-loop-s
invariant-loop-s l = l.made ≡ map (mapped_seg l.m) (take l.s-index l.segs)
