use Rattle.lot_svg.proofs.Appends.{written_next, then_append, known_as}
use Rattle.lot_svg.proofs.Brushes.{fill_text, stroke_text}
use Rattle.lot_svg.proofs.writer.Writer.put_brush.Goals as goal

pub returns-in_ok-put_opacity-in-Fill : goal.returns-in_ok-put_opacity-in-Fill
returns-in_ok-put_opacity-in-Fill c =
    known_as c.put_rule.result _ _ _ _ (fill_text c.args.brush.now c.in-Fill.even_odd c.args.opacity c.in-Fill.is)
    (then_append c.put_rule.result _ _ _ _ _ c.in_ok-put_opacity-in-Fill.ensures c.put_rule.ensures)

pub returns-in_ok-put_dashes-in-Stroke : goal.returns-in_ok-put_dashes-in-Stroke
returns-in_ok-put_dashes-in-Stroke c =
    let r = c.put_dash_offset.result in
    let w = c.in-Stroke in
    known_as r _ _ _ _
    (stroke_text c.args.brush.now w.width w.cap w.join w.miter c.items.result.now w.dashes w.dash_offset c.args.opacity
    w.is c.items.ensures)
    (then_append r _ _ _ _ _
    (written_next _ _ _ _ _ (written_next _ _ _ _ _ (written_next _ _ _ _ _ (written_next _ _ _ _ _ (written_next _ _ _ _ _
    c.in_ok-put_opacity-in-Stroke.ensures c.in_ok-put_length_attribute-in-Stroke.ensures)
    c.in_ok-put_cap-in-Stroke.ensures) c.in_ok-put_join-in-Stroke.ensures) c.in_ok-put_miter-in-Stroke.ensures)
    c.in_ok-put_dashes-in-Stroke.ensures)
    c.put_dash_offset.ensures)
