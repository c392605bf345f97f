use Rattle.lot_geom.proofs.Chords.{IsBefore}
use Rattle.lot_geom.proofs.arc_length.first_reaching.Given as goal

abbrev pub invariant-loop-k : goal.invariant-loop-k
invariant-loop-k l = IsBefore l.lengths l.goal l.before l.k
