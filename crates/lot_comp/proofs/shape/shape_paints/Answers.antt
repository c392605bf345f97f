use Rattle.lot_comp.proofs.Styles.{shown_if_ok}
use Rattle.lot_comp.proofs.shape.shape_paints.Goals as goal

pub returns : goal.returns
returns c = record {
  value =
      shown_if_ok c.args.d.now c.args.t c.args.items.now c.in_ok-found.found c.paint_styles.result c.in_ok-found.ensures.value
      c.paint_styles.ensures.value;
}
