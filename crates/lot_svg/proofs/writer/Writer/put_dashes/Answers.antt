use Rattle.lot_svg.proofs.Appends.{written_next, then_append, known_as}
use Rattle.lot_svg.proofs.Brushes.{pattern_text}
use Rattle.lot_svg.proofs.writer.Writer.put_dashes.Goals as goal

pub returns : goal.returns
returns c =
    let r = c.end_attribute.result in
    known_as r _ _ _ _
    (pattern_text c.args.dashes.now c.first-item.result c.in-len1-up.len_at_least c.first-item.is)
    (then_append r _ _ _ _ _
    (written_next _ _ _ _ _ (written_next _ _ _ _ _
    c.in_ok-start_attribute.ensures c.in_ok-put_length.ensures) c.in_ok-put_more_lengths.ensures)
    c.end_attribute.ensures)
