use Rattle.lot_paint.proofs.Lengths.{all_made}
use Rattle.lot_paint.proofs.dashes.lengths_at.Goals as goal

pub returns : goal.returns
returns c =
    all_made c.args.d.now c.args.t c.args.dashes.now c.loop-dash.made c.loop-dash.dash-index
    c.loop-dash-test.false c.loop-dash.invariant
