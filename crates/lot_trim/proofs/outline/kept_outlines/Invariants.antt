use Rattle.std.proofs.Common.{◌≡◌, ◌≤◌, ◌++◌, drop, map}
use Rattle.lot_trim.specs.Kept.{kept_outlines}
use Rattle.lot_trim.specs.Run.{max_run_length, outline_lengths}
use Rattle.lot_trim.proofs.outline.kept_outlines.Given as goal

abbrev pub invariant-loop-k : goal.invariant-loop-k
invariant-loop-k l =
    let left = drop l.k l.os in
    record {
      kept : l.made ++ kept_outlines l.intervals l.start left ≡ kept_outlines l.intervals 0 l.os;
      lengths : drop l.k l.lengths ≡ map outline_lengths left;
      small : l.start ≤ max_run_length;
    }
