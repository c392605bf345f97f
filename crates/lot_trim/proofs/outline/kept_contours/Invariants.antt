use Rattle.std.proofs.Common.{◌≡◌, ◌≤◌, ◌++◌, drop, map, fold}
use Rattle.lot_geom.specs.Lengths.{segment_lengths}
use Rattle.lot_trim.specs.Kept.{kept_contours}
use Rattle.lot_trim.specs.Run.{max_run_length, end_of_segments}
use Rattle.lot_trim.proofs.outline.kept_contours.Given as goal

abbrev pub invariant-loop-k : goal.invariant-loop-k
invariant-loop-k l =
    let left = drop l.k l.o.contours in
    record {
      kept : l.made ++ kept_contours l.intervals l.start left ≡ kept_contours l.intervals l.initial.start l.o.contours;
      lengths : drop l.k l.lengths ≡ map segment_lengths left;
      end : fold end_of_segments l.start (drop l.k l.lengths) ≡ fold end_of_segments l.initial.start l.lengths;
      small : l.start ≤ max_run_length;
    }
