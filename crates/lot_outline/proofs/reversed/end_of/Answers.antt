use Rattle.std.proofs.Common.{arith}
use Rattle.lot_outline.proofs.Backwards.{last_ends}
use Rattle.lot_outline.proofs.reversed.end_of.Goals as goal

pub returns-in-len1-up : goal.returns-in-len1-up
returns-in-len1-up c =
    last_ends c.args.p.now c.args.segs.now c.last-item.result (omega (arith, c.in-len1-up.len_at_least)) c.last-item.is
