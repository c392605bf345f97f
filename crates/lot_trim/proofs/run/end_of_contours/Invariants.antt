use Rattle.std.proofs.Common.{◌≡◌, ◌≤◌, fold, drop}
use Rattle.lot_trim.specs.Run.{max_run_length, end_of_segments}
use Rattle.lot_trim.proofs.run.end_of_contours.Given as goal

abbrev pub invariant-loop-contour : goal.invariant-loop-contour
invariant-loop-contour l = record {
  left : fold end_of_segments l.end (drop l.contour-index l.lengths) ≡ fold end_of_segments l.start l.lengths;
  small : l.end ≤ max_run_length;
}
