use Rattle.lot_geom.specs.Lengths.{measuring_chords}
use Rattle.lot_geom.proofs.Measured.{IsPassedUntil}
use Rattle.lot_geom.proofs.curve_length.curve_length.Given as goal

abbrev pub invariant-loop-k : goal.invariant-loop-k
invariant-loop-k l = IsPassedUntil l.c measuring_chords l.length l.at l.k
