use Rattle.lot_read.proofs.Items.{IsRead}
use Rattle.lot_read.proofs.list.read_each.Given as goal

abbrev pub invariant-loop-i : goal.invariant-loop-i
invariant-loop-i g l = IsRead (g.R.Reader.gives l.reader) l.fn.at l.at l.fn.uses l.uses l.items l.i l.made
