use Rattle.lot_geom.proofs.Chords.{IsMeasured}
use Rattle.lot_geom.proofs.arc_length.measure.Given as goal

abbrev pub invariant-loop-k : goal.invariant-loop-k
invariant-loop-k l = IsMeasured l.c l.lengths l.total l.at l.k
