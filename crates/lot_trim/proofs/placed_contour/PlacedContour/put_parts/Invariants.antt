use Rattle.std.proofs.Common.{◌≡◌, ◌≤◌, ◌++◌, drop, map}
use Rattle.lot_geom.specs.Lengths.{curve_length, curves_from, curves_of}
use Rattle.lot_trim.specs.Kept.{parts_in}
use Rattle.lot_trim.specs.Run.{max_run_length}
use Rattle.lot_trim.proofs.placed_contour.PlacedContour.put_parts.Given as goal

abbrev pub invariant-loop-k : goal.invariant-loop-k
invariant-loop-k l =
    let left = curves_from l.at (drop l.k l.self.contour.now.segs) in
    record {
      parts : l.parts.items ++ parts_in l.i l.from left
          ≡ l.initial.parts.items ++ parts_in l.i l.self.start (curves_of l.self.contour.now);
      lengths : drop l.k l.self.lengths.now ≡ map curve_length left;
      small : l.from ≤ max_run_length;
    }
