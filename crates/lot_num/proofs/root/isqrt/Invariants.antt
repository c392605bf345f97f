-- The root is from `low` to below `high`.
use Rattle.std.proofs.Common.{◌-◌, ◌*◌, ◌^◌, ◌<◌, ◌≤◌}
use Rattle.lot_num.proofs.root.isqrt.Given as goal

abbrev pub invariant-loop-low : goal.invariant-loop-low
invariant-loop-low l =
    record {
      square : l.low * l.low ≤ l.x;
      next : l.x < l.high * l.high;
      apart : l.low < l.high;
      small : l.high ≤ 2 ^ 64;
    }

abbrev pub decreases-loop-low : goal.decreases-loop-low
decreases-loop-low l = l.high - l.low
