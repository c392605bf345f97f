use Rattle.std.proofs.Common.{◌≡◌, map, take}
use Rattle.lot_trim.specs.Run.{outline_lengths}
use Rattle.lot_trim.proofs.run.run_lengths.Given as goal

abbrev pub invariant-loop-o : goal.invariant-loop-o
invariant-loop-o l = l.made ≡ map outline_lengths (take l.o-index l.os)
