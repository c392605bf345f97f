use Rattle.std.proofs.Common.{◌∙◌, ap}
use Rattle.lot_types.specs.declared.rgb.Rgb.{Rgb}
use Rattle.lot_paint.specs.Color.{rgb_of}
use Rattle.lot_paint.proofs.Reached.{color_at_is}
use Rattle.lot_paint.proofs.merged.stop_of_opacity.Goals as goal

pub returns : goal.returns
returns c g is =
    let o = c.args.o.now in
    let color = color_at_is g c.args.colors.now o.offset c.color_at.result c.requires.some is c.color_at.ensures in
    ap (λ (rgb : Rgb). record { offset = o.offset; rgb = rgb; alpha = o.value }) (c.rgb_of.ensures ∙ ap rgb_of color)
