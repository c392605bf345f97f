-- The attributes of each brush, in the order in which they are written.
use Rattle.std.proofs.Common.{◌≡◌, ◌∙◌, ℕ, ℤ, ◌≤◌, Bool, List, [], ◌∷◌, ◌++◌, ◌-◌, codes, slice_range, length, get_or, Option, ap, sym, arith, append_assoc}
use Rattle.std.proofs.lemmas.List.{take_all}
use Rattle.lot_types.specs.declared.brush.Brush.{Brush}
use Rattle.lot_types.specs.declared.brush.Brush.TheVariants.{Fill, Stroke}
use Rattle.lot_svg.specs.Element.{attribute, attribute_start, attribute_end}
use Rattle.lot_svg.specs.Number.{length_text, length_attribute, opacity_text}
use Rattle.lot_svg.specs.Paint.{brush_text, rule_text, cap_text, join_text, miter_text, dashes_text, more_lengths_text, dash_offset_text}

pub fill_text : (brush : Brush) (even_odd : Bool) (opacity : ℤ) → brush ≡ Fill even_odd
    → opacity_text (codes "fill-opacity") opacity ++ rule_text even_odd ≡ brush_text brush opacity
unfolding brush_text
fill_text brush even_odd opacity is = ap (λ (b : Brush). brush_text b opacity) (sym is)

pub stroke_text : (brush : Brush) (width : ℤ) (cap join : ℕ) (miter : ℤ) (dashes kept : List ℤ) (dash_offset : Option ℤ)
    (opacity : ℤ) → brush ≡ Stroke width cap join miter kept dash_offset → dashes ≡ kept
    → opacity_text (codes "stroke-opacity") opacity ++ length_attribute (codes "stroke-width") width
    ++ attribute (codes "stroke-linecap") (cap_text cap) ++ attribute (codes "stroke-linejoin") (join_text join)
    ++ miter_text join miter ++ dashes_text dashes ++ dash_offset_text dash_offset
    ≡ brush_text brush opacity
unfolding brush_text
stroke_text brush width cap join miter dashes kept dash_offset opacity is same =
    ap (λ (b : Brush). brush_text b opacity)
    (ap (λ (lengths : List ℤ). Stroke width cap join miter lengths dash_offset) same ∙ sym is)

pub pattern_text : (dashes : List ℤ) (first : ℤ) → 1 ≤ length dashes → first ≡ get_or dashes 0 first
    → attribute_start (codes "stroke-dasharray") ++ length_text first
    ++ more_lengths_text (slice_range dashes 1 (length dashes)) ++ attribute_end
    ≡ dashes_text dashes
unfolding attribute
pattern_text [] first some is = absurd (omega (arith, some))
pattern_text (x ∷ more) first some is =
    let begin = attribute_start (codes "stroke-dasharray") in
    let all : length more ≤ length (x ∷ more) - 1 = omega arith in
    ap (λ (v : ℤ). begin ++ length_text v ++ more_lengths_text (slice_range (x ∷ more) 1 (length (x ∷ more))) ++ attribute_end) is
    ∙ ap (λ (lengths : List ℤ). begin ++ length_text x ++ more_lengths_text lengths ++ attribute_end) (take_all _ more all)
    ∙ ap (λ (t : List ℕ). t ++ attribute_end) (append_assoc begin (length_text x) (more_lengths_text more))
