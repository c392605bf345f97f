use Rattle.lot_svg.proofs.Dashes.{length_more, none_left}
use Rattle.lot_svg.proofs.writer.Writer.put_more_lengths.Goals as goal

pub loop-length-preserved : goal.loop-length-preserved
loop-length-preserved c =
    length_more c.args.lengths.now c.loop-length.length-index c.length-item.result _ _ _
    c.loop-length-test.true c.length-item.is c.in_ok-put_spaced.ensures c.loop-length.invariant

pub returns : goal.returns
returns c = none_left c.args.lengths.now c.loop-length.length-index _ _ c.loop-length-test.false c.loop-length.invariant
