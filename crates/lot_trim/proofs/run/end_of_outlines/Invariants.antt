use Rattle.std.proofs.Common.{◌≡◌, ◌≤◌, fold, drop}
use Rattle.lot_trim.specs.Run.{max_run_length, end_of_contours}
use Rattle.lot_trim.proofs.run.end_of_outlines.Given as goal

abbrev pub invariant-loop-outline : goal.invariant-loop-outline
invariant-loop-outline l = record {
  left : fold end_of_contours l.end (drop l.outline-index l.lengths) ≡ fold end_of_contours 0 l.lengths;
  small : l.end ≤ max_run_length;
}
