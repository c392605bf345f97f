-- The first `at` bytes were taken; what is left is the measure.
use Rattle.std.proofs.Common.{◌-◌, length}
use Rattle.lot_play.proofs.WriteLoop.{IsWritten}
use Rattle.lot_play.proofs.writing.write_all.Given as goal

abbrev pub invariant-loop-at : goal.invariant-loop-at
invariant-loop-at g l = IsWritten (g.K.Sink.state l.initial.sink) (g.K.Sink.state l.sink) l.bytes l.at

abbrev pub decreases-loop-at : goal.decreases-loop-at
decreases-loop-at g l = length l.bytes - l.at
