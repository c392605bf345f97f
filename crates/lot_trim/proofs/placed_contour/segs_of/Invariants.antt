use Rattle.std.proofs.Common.{◌≡◌, map, take}
use Rattle.lot_trim.specs.Kept.{seg_of}
use Rattle.lot_trim.proofs.placed_contour.segs_of.Given as goal

abbrev pub invariant-loop-c : goal.invariant-loop-c
invariant-loop-c l = l.made ≡ map seg_of (take l.c-index l.curves)
