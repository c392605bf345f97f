-- The keyframes before the k-th are in order.
use Rattle.std.proofs.Common.{◌-◌, ◌<◌, ◌≤ℤ◌, length}
use Rattle.std.specs.List.{AllAdjacentBelow}
use Rattle.lot_types.proofs.keys.is_timeline.Given as goal

abbrev pub invariant-loop-k : goal.invariant-loop-k
invariant-loop-k g l = record {
  some : 0 < l.k;
  in_order : AllAdjacentBelow (λ a b. a.t ≤ℤ b.t) l.keys l.k;
}

abbrev pub decreases-loop-k : goal.decreases-loop-k
decreases-loop-k g l = length l.keys - l.k
