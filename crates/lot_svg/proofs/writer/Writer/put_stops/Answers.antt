use Rattle.lot_svg.proofs.Stops.{stop_more, none_left}
use Rattle.lot_svg.proofs.writer.Writer.put_stops.Goals as goal

pub loop-s-preserved : goal.loop-s-preserved
loop-s-preserved c =
    stop_more c.args.stops.now c.loop-s.s-index c.s-item.result _ _ _
    c.loop-s-test.true c.s-item.is c.in_ok-put_stop.ensures c.loop-s.invariant

pub returns : goal.returns
returns c = none_left c.args.stops.now c.loop-s.s-index _ _ c.loop-s-test.false c.loop-s.invariant
