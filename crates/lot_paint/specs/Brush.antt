-- The brush of fills and strokes, after the Lottie Specification 1.0, "Fill" and "Stroke". Lengths are in millionths of
-- a pixel, and the miter limit in millionths.
use Rattle.std.specs.Prelude.{ℕ, ℤ, pos, ◌^◌, ◌==◌, not, List, Option, Some, None}
use Rattle.lot_prop.specs.Slots.{scalar_value}
use Rattle.lot_types.specs.declared.brush.Brush.{Brush}
use Rattle.lot_types.specs.declared.brush.Brush.TheVariants.{Fill, Stroke}
use Rattle.lot_types.specs.declared.dash.Dash.{Dash}
use Rattle.lot_types.specs.declared.doc.Doc.{Doc}
use Rattle.lot_types.specs.declared.prop.Prop.{Prop}
use Rattle.lot_paint.specs.declared.dashes.Pattern.{Pattern}
use Rattle.lot_paint.specs.Dashes.{at_least, pattern_value}

-- The brush of a fill by the rule r: 1 nonzero, 2 even-odd. A number that is none of them counts as 2.
abbrev pub fill_brush : ℕ → Brush
fill_brush r = Fill (not (r == 1))

-- A stroke is not narrower than 0, and its miter limit is not below 1.
abbrev pub stroke_brush : ℤ → ℕ → ℕ → ℤ → Pattern → Brush
stroke_brush width cap join miter pattern =
    Stroke (at_least (pos 0) width) cap join (at_least (pos (10 ^ 6)) miter) pattern.lengths pattern.offset

abbrev pub stroke_with : ℕ → ℕ → ℤ → Option ℤ → Option Pattern → Option Brush
stroke_with cap join miter (Some width) (Some pattern) = Some (stroke_brush width cap join miter pattern)
stroke_with cap join miter (Some width) None = None
stroke_with cap join miter None pattern = None

-- The brush of a stroke of the width w and with dashes, at a time.
abbrev pub stroke_value : Doc → ℤ → Prop ℤ → ℕ → ℕ → ℤ → List Dash → Option Brush
stroke_value d t w cap join miter dashes =
    stroke_with cap join miter (scalar_value d w t) (pattern_value d t dashes)
