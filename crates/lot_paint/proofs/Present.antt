-- A style whose properties have values has a paint at every time.
use Rattle.std.proofs.Common.{◌≡◌, ℕ, ℤ, ◌==◌, Bool, true, false, List, filter, reverse, Option, Some, None, refl, if◌then◌else◌}
use Rattle.std.specs.Prelude.{IsSome, IfSome}
use Rattle.std.proofs.lemmas.List.Elements.{All-weaker}
use Rattle.lot_types.specs.declared.brush.Brush.{Brush}
use Rattle.lot_types.specs.declared.color.Color.{Color}
use Rattle.lot_types.specs.declared.dash.Dash.{Dash}
use Rattle.lot_types.specs.declared.doc.Doc.{Doc}
use Rattle.lot_types.specs.declared.ink.Ink.{Ink}
use Rattle.lot_types.specs.declared.item.Item.{Item, out-Item}
use Rattle.lot_types.specs.declared.item.Item.TheOpen.{Item-F}
use Rattle.lot_types.specs.declared.item.Item.TheOpen as item
use Rattle.lot_types.specs.declared.outline.Outline.{Outline}
use Rattle.lot_types.specs.declared.painted.Painted.{Painted}
use Rattle.lot_types.specs.declared.point.Point.{Point}
use Rattle.lot_types.specs.declared.prop.Prop.{Prop}
use Rattle.lot_types.specs.declared.stop.Stop.{Stop}
use Rattle.lot_types.specs.declared.stops.Stops.{Stops}
use Rattle.lot_types.specs.Items.{kind_in, kind_of, is_style, is_style_kind, HasOwnValues, ValuesIn, DashesHaveValues}
use Rattle.lot_types.specs.Slots.{HasColor, HasScalar}
use Rattle.lot_types.proofs.Elements.{All-reverse, All-filter, All-find}
use Rattle.lot_types.proofs.Present.{map_present, each_present}
use Rattle.lot_prop.specs.Slots.{scalar_value, vector_value, color_value, gradient_value}
use Rattle.lot_prop.specs.Transform.{opacity_value}
use Rattle.lot_prop.proofs.Present.{scalar_present, vector_present, color_present, gradient_present, opacity_present}
use Rattle.lot_paint.specs.Brush.{fill_brush, stroke_with, stroke_value}
use Rattle.lot_paint.specs.Dashes.{is_length, is_offset, length_value, lengths_value, last_offset, value_if_any, offset_value, pattern_with, pattern_value}
use Rattle.lot_paint.specs.declared.dashes.Pattern.{Pattern}
use Rattle.lot_paint.specs.Gradient.{linear_with, radial_with, HasGradientValues, merged_value, gradient_ink}
use Rattle.lot_paint.specs.Ink.{flat_ink}
use Rattle.lot_paint.specs.Opacity.{within_groups, style_opacity}
use Rattle.lot_paint.specs.Paint.{paint_with, paint_in, paint_at}
use Rattle.lot_paint.specs.Stops.{merged_stops}

-- Dashes.
length_present : (d : Doc) (t : ℤ) (dash : Dash) → HasScalar d dash.v → IsSome (length_value d t dash)
length_present d t dash has = map_present _ (scalar_value d dash.v t) (scalar_present d dash.v t has)

lengths_present : (d : Doc) (t : ℤ) (dashes : List Dash) → DashesHaveValues d dashes → IsSome (lengths_value d t dashes)
lengths_present d t dashes has =
    each_present (length_value d t) (filter is_length dashes)
    (All-filter (λ dash. IsSome (length_value d t dash)) is_length dashes
    (All-weaker (λ dash. HasScalar d dash.v) (λ dash. IsSome (length_value d t dash)) (λ dash. length_present d t dash) dashes has))

if_any_present : (d : Doc) (t : ℤ) (dash : Option Dash) → IfSome dash (λ dash. HasScalar d dash.v) → IsSome (value_if_any d t dash)
if_any_present d t None has = refl
if_any_present d t (Some dash) has = map_present _ (scalar_value d dash.v t) (scalar_present d dash.v t has)

offset_present : (d : Doc) (t : ℤ) (dashes : List Dash) → DashesHaveValues d dashes → IsSome (offset_value d t dashes)
offset_present d t dashes has =
    if_any_present d t (last_offset dashes)
    (All-find (λ dash. HasScalar d dash.v) is_offset (reverse dashes) (All-reverse (λ dash. HasScalar d dash.v) dashes has))

both_present : (lengths : Option (List ℤ)) (offset : Option (Option ℤ)) → IsSome lengths → IsSome offset → IsSome (pattern_with lengths offset)
both_present (Some lengths) (Some offset) h k = refl
both_present (Some lengths) None h k = absurd (cc)
both_present None offset h k = absurd (cc)

pattern_present : (d : Doc) (t : ℤ) (dashes : List Dash) → DashesHaveValues d dashes → IsSome (pattern_value d t dashes)
pattern_present d t dashes has =
    both_present (lengths_value d t dashes) (offset_value d t dashes) (lengths_present d t dashes has) (offset_present d t dashes has)

-- Brushes.
stroke_with_present : (cap join : ℕ) (miter : ℤ) (width : Option ℤ) (pattern : Option Pattern) → IsSome width → IsSome pattern
    → IsSome (stroke_with cap join miter width pattern)
stroke_with_present cap join miter (Some width) (Some pattern) h k = refl
stroke_with_present cap join miter (Some width) None h k = absurd (cc)
stroke_with_present cap join miter None pattern h k = absurd (cc)

stroke_present : (d : Doc) (t : ℤ) (w : Prop ℤ) (cap join : ℕ) (miter : ℤ) (dashes : List Dash) → HasScalar d w → DashesHaveValues d dashes
    → IsSome (stroke_value d t w cap join miter dashes)
stroke_present d t w cap join miter dashes has have =
    stroke_with_present cap join miter (scalar_value d w t) (pattern_value d t dashes) (scalar_present d w t has) (pattern_present d t dashes have)

-- Inks.
flat_present : (d : Doc) (c : Prop Color) (t : ℤ) → HasColor d c → IsSome (flat_ink d c t)
flat_present d c t has = map_present _ (color_value d c t) (color_present d c t has)

linear_present : (s e : Option Point) (stops : Option (List Stop)) → IsSome s → IsSome e → IsSome stops → IsSome (linear_with s e stops)
linear_present (Some s) (Some e) (Some stops) h k l = refl
linear_present (Some s) (Some e) None h k l = absurd (cc)
linear_present (Some s) None stops h k l = absurd (cc)
linear_present None e stops h k l = absurd (cc)

radial_present : (s e : Option Point) (high a : Option ℤ) (stops : Option (List Stop)) → IsSome s → IsSome e → IsSome high → IsSome a
    → IsSome stops → IsSome (radial_with s e high a stops)
radial_present (Some s) (Some e) (Some high) (Some a) (Some stops) h k l m n = refl
radial_present (Some s) (Some e) (Some high) (Some a) None h k l m n = absurd (cc)
radial_present (Some s) (Some e) (Some high) None stops h k l m n = absurd (cc)
radial_present (Some s) (Some e) None a stops h k l m n = absurd (cc)
radial_present (Some s) None high a stops h k l m n = absurd (cc)
radial_present None e high a stops h k l m n = absurd (cc)

gradient_ink_present : (d : Doc) (t : ℤ) (s e : Prop Point) (kind : ℕ) (g : Stops) (high a : Prop ℤ) → HasGradientValues d s e g high a
    → IsSome (gradient_ink d t s e kind g high a)
unfolding gradient_ink
gradient_ink_present d t s e kind g high a has = by_kind (kind == 1)
  where
    start : IsSome (vector_value d s t)
    start = vector_present d s t has.start

    end : IsSome (vector_value d e t)
    end = vector_present d e t has.end

    stops : IsSome (merged_value d g t)
    stops = map_present merged_stops (gradient_value d g.k t) (gradient_present d g.k t has.stops)

    by_kind : (b : Bool) → IsSome (if b then linear_with (vector_value d s t) (vector_value d e t) (merged_value d g t)
        else radial_with (vector_value d s t) (vector_value d e t) (scalar_value d high t) (scalar_value d a t) (merged_value d g t))
    by_kind true = linear_present (vector_value d s t) (vector_value d e t) (merged_value d g t) start end stops
    by_kind false =
        radial_present (vector_value d s t) (vector_value d e t) (scalar_value d high t) (scalar_value d a t) (merged_value d g t) start end
        (scalar_present d high t has.highlight) (scalar_present d a t has.angle) stops

-- Paints.
opacity_of_style : (d : Doc) (o : Prop ℤ) (t : ℤ) (groups : List ℤ) → HasScalar d o → IsSome (style_opacity d o t groups)
opacity_of_style d o t groups has = map_present (within_groups groups) (opacity_value d o t) (opacity_present d o t has)

with_present : (at : Painted) (leaves : List Outline) (ink : Option Ink) (brush : Option Brush) (opacity : Option ℤ)
    → IsSome ink → IsSome brush → IsSome opacity → IsSome (paint_with at leaves ink brush opacity)
with_present at leaves (Some ink) (Some brush) (Some opacity) h k l = refl
with_present at leaves (Some ink) (Some brush) None h k l = absurd (cc)
with_present at leaves (Some ink) None opacity h k l = absurd (cc)
with_present at leaves None brush opacity h k l = absurd (cc)

in_present : (d : Doc) (t : ℤ) (at : Painted) (leaves : List Outline) (x : Item-F Item) → is_style_kind (kind_in x) ≡ true → ValuesIn d x
    → IsSome (paint_in d t at leaves x)
in_present d t at leaves (item.Group hidden it) is has = absurd (cc)
in_present d t at leaves (item.Rect hidden p s r direction) is has = absurd (cc)
in_present d t at leaves (item.Ellipse hidden p s direction) is has = absurd (cc)
in_present d t at leaves (item.Star hidden sy pt p r or_ os ir is_ direction) is has = absurd (cc)
in_present d t at leaves (item.Path hidden ks direction) is has = absurd (cc)
in_present d t at leaves (item.Fill hidden c o r) is has =
    with_present at leaves (flat_ink d c t) (Some (fill_brush r)) (style_opacity d o t at.groups)
    (flat_present d c t has.0) refl (opacity_of_style d o t at.groups has.1)
in_present d t at leaves (item.Stroke hidden c o w lc lj ml dashes) is has =
    with_present at leaves (flat_ink d c t) (stroke_value d t w lc lj ml dashes) (style_opacity d o t at.groups)
    (flat_present d c t has.0) (stroke_present d t w lc lj ml dashes has.2 has.3) (opacity_of_style d o t at.groups has.1)
in_present d t at leaves (item.GradientFill hidden o s e kind g h a r) is has =
    with_present at leaves (gradient_ink d t s e kind g h a) (Some (fill_brush r)) (style_opacity d o t at.groups)
    (gradient_ink_present d t s e kind g h a (record { start = has.1; end = has.2; stops = has.3; highlight = has.4; angle = has.5 }))
    refl (opacity_of_style d o t at.groups has.0)
in_present d t at leaves (item.GradientStroke hidden o s e kind g h a w lc lj ml dashes) is has =
    with_present at leaves (gradient_ink d t s e kind g h a) (stroke_value d t w lc lj ml dashes) (style_opacity d o t at.groups)
    (gradient_ink_present d t s e kind g h a (record { start = has.1; end = has.2; stops = has.3; highlight = has.4; angle = has.5 }))
    (stroke_present d t w lc lj ml dashes has.6 has.7) (opacity_of_style d o t at.groups has.0)
in_present d t at leaves (item.Trim hidden s e o m) is has = absurd (cc)
in_present d t at leaves (item.Place hidden ks) is has = absurd (cc)

pub paint_present : (d : Doc) (t : ℤ) (style : Item) (at : Painted) (leaves : List Outline) → is_style style ≡ true → HasOwnValues d style
    → IsSome (paint_at d t style at leaves)
unfolding paint_at is_style kind_of HasOwnValues
paint_present d t style at leaves is has = in_present d t at leaves (out-Item style) is has
