-- What a shape layer shows at a time, after the Lottie Specification 1.0, "Shape Layer": its styles, each on the leaves
-- that it paints.
use Rattle.std.specs.Prelude.{ℤ, List, map, reverse, Option, option_and_then}
use Rattle.lot_group.specs.Collected.{collected}
use Rattle.lot_group.specs.Place.{item_at}
use Rattle.lot_paint.specs.Paint.{paint_at}
use Rattle.lot_types.specs.declared.collected.Collected.{Collected}
use Rattle.lot_types.specs.declared.doc.Doc.{Doc}
use Rattle.lot_types.specs.declared.item.Item.{Item}
use Rattle.lot_types.specs.declared.outline.Outline.{Outline}
use Rattle.lot_types.specs.declared.paint.Paint.{Paint}
use Rattle.lot_types.specs.declared.painted.Painted.{Painted}
use Rattle.lot_types.specs.Options.{all_present}

-- What the style at a place draws of the leaves of its layer.
abbrev pub style_paint : Doc → ℤ → List Item → List Outline → Painted → Option Paint
style_paint d t items leaves at = option_and_then (λ style. paint_at d t style at leaves) (item_at items at.place)

-- The styles are drawn from the last to the first, so that the first lies on top.
abbrev pub styles_paints : Doc → ℤ → List Item → Collected → Option (List Paint)
styles_paints d t items found = all_present (map (style_paint d t items found.leaves) (reverse found.styles))

unfoldable pub shape_paints : Doc → ℤ → List Item → Option (List Paint)
shape_paints d t items = option_and_then (styles_paints d t items) (collected d t items)
