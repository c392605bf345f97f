use Rattle.std.specs.Prelude.{◌≡◌, ◌++◌, drop, map}
use Rattle.lot_geom.specs.Lengths.{curve_length, curves_from, curves_of}
use Rattle.lot_geom.proofs.curve_length.lengths.Given as goal

abbrev pub invariant-loop-s : goal.invariant-loop-s
invariant-loop-s l =
    l.made ++ map curve_length (curves_from l.start (drop l.s-index l.segs)) ≡ map curve_length (curves_of l.c)
