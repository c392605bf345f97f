-- The ink of one color, after the Lottie Specification 1.0, "Fill" and "Stroke".
use Rattle.std.specs.Prelude.{ℤ, Option, option_map}
use Rattle.lot_prop.specs.Slots.{color_value}
use Rattle.lot_types.specs.declared.color.Color.{Color}
use Rattle.lot_types.specs.declared.doc.Doc.{Doc}
use Rattle.lot_types.specs.declared.ink.Ink.{Ink}
use Rattle.lot_types.specs.declared.ink.Ink.TheVariants.{Flat}
use Rattle.lot_types.specs.declared.prop.Prop.{Prop}
use Rattle.lot_paint.specs.Color.{rgb_of}

-- The ink of the color c at a time.
abbrev pub flat_ink : Doc → Prop Color → ℤ → Option Ink
flat_ink d c t = option_map (λ color. Flat (rgb_of color)) (color_value d c t)
