use Rattle.std.proofs.Common.{arith}
use Rattle.lot_num.proofs.LastDigits.{one_more}
use Rattle.lot_num.proofs.digits.put_last_digits.Goals as goal

pub loop-at-preserved : goal.loop-at-preserved
loop-at-preserved c = one_more _ _ _ _ c.loop-at.invariant (omega arith)
