-- The paint of a style of a shape layer at a time, after the Lottie Specification 1.0, "Shapes".
use Rattle.std.specs.Prelude.{ℤ, List, Option, Some, None}
use Rattle.lot_types.specs.declared.brush.Brush.{Brush}
use Rattle.lot_types.specs.declared.doc.Doc.{Doc}
use Rattle.lot_types.specs.declared.ink.Ink.{Ink}
use Rattle.lot_types.specs.declared.item.Item.{Item, out-Item}
use Rattle.lot_types.specs.declared.item.Item.TheOpen.{Item-F}
use Rattle.lot_types.specs.declared.item.Item.TheOpen as item
use Rattle.lot_types.specs.declared.outline.Outline.{Outline}
use Rattle.lot_types.specs.declared.paint.Paint.{Paint}
use Rattle.lot_types.specs.declared.painted.Painted.{Painted}
use Rattle.lot_paint.specs.Brush.{fill_brush, stroke_value}
use Rattle.lot_paint.specs.Contours.{painted_contours}
use Rattle.lot_paint.specs.Gradient.{gradient_ink}
use Rattle.lot_paint.specs.Ink.{flat_ink}
use Rattle.lot_paint.specs.Opacity.{style_opacity}

-- The parts of a paint, where there are all.
abbrev pub paint_with : Painted → List Outline → Option Ink → Option Brush → Option ℤ → Option Paint
paint_with at leaves (Some ink) (Some brush) (Some opacity) = Some (record {
  ink = ink;
  brush = brush;
  opacity = opacity;
  matrix = at.matrix;
  contours = painted_contours at leaves;
})
paint_with at leaves (Some ink) (Some brush) None = None
paint_with at leaves (Some ink) None opacity = None
paint_with at leaves None brush opacity = None

-- An item that is no style has no paint.
abbrev pub paint_in : Doc → ℤ → Painted → List Outline → Item-F Item → Option Paint
paint_in d t at leaves (item.Group hidden it) = None
paint_in d t at leaves (item.Rect hidden p s r direction) = None
paint_in d t at leaves (item.Ellipse hidden p s direction) = None
paint_in d t at leaves (item.Star hidden sy pt p r or_ os ir is_ direction) = None
paint_in d t at leaves (item.Path hidden ks direction) = None
paint_in d t at leaves (item.Fill hidden c o r) =
    paint_with at leaves (flat_ink d c t) (Some (fill_brush r)) (style_opacity d o t at.groups)
paint_in d t at leaves (item.Stroke hidden c o w lc lj ml dashes) =
    paint_with at leaves (flat_ink d c t) (stroke_value d t w lc lj ml dashes) (style_opacity d o t at.groups)
paint_in d t at leaves (item.GradientFill hidden o s e kind g h a r) =
    paint_with at leaves (gradient_ink d t s e kind g h a) (Some (fill_brush r)) (style_opacity d o t at.groups)
paint_in d t at leaves (item.GradientStroke hidden o s e kind g h a w lc lj ml dashes) =
    paint_with at leaves (gradient_ink d t s e kind g h a) (stroke_value d t w lc lj ml dashes)
    (style_opacity d o t at.groups)
paint_in d t at leaves (item.Trim hidden s e o m) = None
paint_in d t at leaves (item.Place hidden ks) = None

-- The paint of a style in the leaves of its layer.
unfoldable pub paint_at : Doc → ℤ → Item → Painted → List Outline → Option Paint
paint_at d t style at leaves = paint_in d t at leaves (out-Item style)
