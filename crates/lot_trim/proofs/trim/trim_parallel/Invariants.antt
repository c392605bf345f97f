use Rattle.std.proofs.Common.{◌≡◌, take}
use Rattle.lot_trim.specs.Trim.{trimmed_each}
use Rattle.lot_trim.proofs.trim.trim_parallel.Given as goal

abbrev pub invariant-loop-o : goal.invariant-loop-o
invariant-loop-o l = l.made ≡ trimmed_each l.cut (take l.o-index l.os)
