use Rattle.std.proofs.Common.{◌∙◌, ap, rules}
use Rattle.lot_trim.specs.Run.{outline_lengths, end_of_contours}
use Rattle.lot_trim.proofs.Steps.{belongs, outline_more, no_outline_left}
use Rattle.lot_trim.proofs.outline.kept_outlines.Goals as goal

pub loop-k-preserved : goal.loop-k-preserved
loop-k-preserved c =
    let before = c.loop-k.invariant in
    let here = belongs outline_lengths c.args.os.now c.items-lengths.result.now c.loop-k.k c.index-os-k.result
    c.index-lengths-k.result c.loop-k-test.true c.index-os-k.is c.index-lengths-k.is before.lengths in
    record {
      kept =
          outline_more c.args.intervals.now c.loop-k.start c.kept_contours.new.start c.args.os.now c.loop-k.made c.push.new.self
          _ c.loop-k.k c.index-os-k.result c.in_ok-contours.contours
          c.loop-k-test.true c.index-os-k.is (search rules) c.in_ok-contours.ensures.kept
          (c.in_ok-contours.ensures.end ∙ ap (end_of_contours c.loop-k.start) here.here) before.kept;
      lengths = here.after;
      small = c.in_ok-contours.ensures.small;
    }

pub returns : goal.returns
returns c =
    no_outline_left c.args.intervals.now c.loop-k.start c.args.os.now c.loop-k.made _ c.loop-k.k
    c.loop-k-test.false c.loop-k.invariant.kept
