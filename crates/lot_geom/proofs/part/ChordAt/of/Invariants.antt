use Rattle.lot_geom.specs.Lengths.{measuring_chords}
use Rattle.lot_geom.proofs.Measured.{IsPassedUntil, NoneReaches}
use Rattle.lot_geom.proofs.part.ChordAt.of.Given as goal

abbrev pub invariant-loop-before : goal.invariant-loop-before
invariant-loop-before l = record {
  passed : IsPassedUntil l.c measuring_chords l.start l.at l.before;
  first : NoneReaches l.c measuring_chords l.x l.before;
}
