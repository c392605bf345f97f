use Rattle.std.proofs.Common.{◌-◌}
use Rattle.lot_num.proofs.Curves.{IsBetween}
use Rattle.lot_num.proofs.easing.least_step.Given as goal

abbrev pub invariant-loop-low : goal.invariant-loop-low
invariant-loop-low l = IsBetween l.a l.b l.num l.den l.low l.high

abbrev pub decreases-loop-low : goal.decreases-loop-low
decreases-loop-low l = l.high - l.low
