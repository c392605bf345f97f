use Rattle.std.proofs.Common.{◌≡◌, ◌≤◌, length, take}
use Rattle.lot_num.specs.Digits.{without_end_zeros}
use Rattle.lot_num.proofs.digits.len_without_end_zeros.Given as goal

abbrev pub invariant-loop-kept : goal.invariant-loop-kept
invariant-loop-kept l = record {
  within : l.kept ≤ length l.digits;
  same : without_end_zeros (take l.kept l.digits) ≡ without_end_zeros l.digits;
}

abbrev pub decreases-loop-kept : goal.decreases-loop-kept
decreases-loop-kept l = l.kept
