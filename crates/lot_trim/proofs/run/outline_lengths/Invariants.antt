use Rattle.std.proofs.Common.{◌≡◌, map, take}
use Rattle.lot_geom.specs.Lengths.{segment_lengths}
use Rattle.lot_trim.proofs.run.outline_lengths.Given as goal

abbrev pub invariant-loop-c : goal.invariant-loop-c
invariant-loop-c l = l.made ≡ map segment_lengths (take l.c-index l.contours)
