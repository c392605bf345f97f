use Rattle.lot_num.proofs.LastDigits.{IsFilled}
use Rattle.lot_num.proofs.digits.put_last_digits.Given as goal

abbrev pub invariant-loop-at : goal.invariant-loop-at
invariant-loop-at l = IsFilled l.n l.out l.at l.rest

abbrev pub decreases-loop-at : goal.decreases-loop-at
decreases-loop-at l = l.at
