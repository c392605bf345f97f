use Rattle.std.proofs.Common.{◌≡◌, ◌≤◌, fold, drop}
use Rattle.lot_trim.specs.Run.{max_run_length, length_sum}
use Rattle.lot_trim.proofs.run.end_of_segments.Given as goal

abbrev pub invariant-loop-length : goal.invariant-loop-length
invariant-loop-length l = record {
  left : fold length_sum l.end (drop l.length-index l.lengths) ≡ fold length_sum l.start l.lengths;
  small : l.end ≤ max_run_length;
}
