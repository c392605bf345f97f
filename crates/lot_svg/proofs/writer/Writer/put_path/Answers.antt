use Rattle.lot_svg.proofs.Contours.{contour_more, none_left}
use Rattle.lot_svg.proofs.writer.Writer.put_path.Goals as goal

pub loop-c-preserved : goal.loop-c-preserved
loop-c-preserved c =
    contour_more c.args.contours.now c.loop-c.c-index c.c-item.result _ _ _
    c.loop-c-test.true c.c-item.is c.in_ok-put_contour.ensures c.loop-c.invariant

pub returns : goal.returns
returns c = none_left c.args.contours.now c.loop-c.c-index _ _ c.loop-c-test.false c.loop-c.invariant
