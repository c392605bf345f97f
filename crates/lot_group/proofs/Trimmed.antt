-- What a trim leaves of outlines that all have values, and that it leaves as many.
use Rattle.std.proofs.Common.{◌≡◌, ◌∙◌, ℕ, ℤ, ◌==◌, List, map, length, Option, Some, None, Bool, true, false, ap, sym, refl, if◌then◌else◌}
use Rattle.std.proofs.lemmas.List.{length-map}
use Rattle.std.specs.Prelude.{option_map, option_and_then}
use Rattle.lot_prop.specs.Slots.{scalar_value}
use Rattle.lot_trim.specs.declared.cut.TrimCut.{TrimCut}
use Rattle.lot_trim.specs.Trim.{trimmed_run, trimmed_each}
use Rattle.lot_trim.proofs.Counts.{trimmed_run-length, trimmed_each-length}
use Rattle.lot_types.specs.declared.doc.Doc.{Doc}
use Rattle.lot_types.specs.declared.item.Item.{Item, Item-F, out-Item}
use Rattle.lot_types.specs.declared.item.Item.TheOpen as item
use Rattle.lot_types.specs.declared.item.Item.TheVariants.{Trim, outs-Trim}
use Rattle.lot_types.specs.declared.outline.Outline.{Outline}
use Rattle.lot_types.specs.declared.prop.Prop.{Prop}
use Rattle.lot_types.specs.Options.{all_present}
use Rattle.lot_types.proofs.Present.{all_are_present, none_missing}
use Rattle.lot_group.specs.Outlines.{in_place_of, trimmed}
use Rattle.lot_group.specs.Trim.{cut_with, trimmed_by, trimmed_in, trim_value}

pub trimmed-present : (d : Doc) (u : ℤ) (r : Item) (os left : List Outline) → trim_value d u r os ≡ Some left →
    trimmed d u r (map Some os) ≡ map Some left
unfolding trimmed
trimmed-present d u r os left e =
    ap (λ (z : Option (List Outline)). in_place_of (map Some os) (option_and_then (trim_value d u r) z))
    (all_are_present os) ∙ ap (in_place_of (map Some os)) e

-- ---- the number of outlines

by_mode-length : (b : Bool) (cut : TrimCut) (os : List Outline) →
    length (if b then trimmed_each cut os else trimmed_run cut os) ≡ length os
by_mode-length true cut os = trimmed_each-length cut os
by_mode-length false cut os = trimmed_run-length cut os

cut-length : (m : ℕ) (os left : List Outline) (cut : Option TrimCut) →
    option_map (λ cut. trimmed_by m cut os) cut ≡ Some left → length left ≡ length os
cut-length m os left None e = absurd (cc)
cut-length m os left (Some cut) e =
    let same : trimmed_by m cut os ≡ left = cc in ap length (sym same) ∙ by_mode-length (m == 1) cut os

value_in-length : (d : Doc) (u : ℤ) (y : Item-F Item) (os left : List Outline) → trimmed_in d u y os ≡ Some left →
    length left ≡ length os
value_in-length d u (item.Group hidden it) os left e = absurd (cc)
value_in-length d u (item.Rect hidden p s r c) os left e = absurd (cc)
value_in-length d u (item.Ellipse hidden p s c) os left e = absurd (cc)
value_in-length d u (item.Star hidden sy pt p r or_ os_ ir is_ c) os left e = absurd (cc)
value_in-length d u (item.Path hidden ks c) os left e = absurd (cc)
value_in-length d u (item.Fill hidden c o r) os left e = absurd (cc)
value_in-length d u (item.Stroke hidden c o w lc lj ml n) os left e = absurd (cc)
value_in-length d u (item.GradientFill hidden o s z t g n a r) os left e = absurd (cc)
value_in-length d u (item.GradientStroke hidden o s z t g n a w lc lj ml c) os left e = absurd (cc)
value_in-length d u (item.Trim hidden s z o m) os left e =
    cut-length m os left (cut_with (scalar_value d s u) (scalar_value d z u) (scalar_value d o u)) e
value_in-length d u (item.Place hidden ks) os left e = absurd (cc)

present-length : (os : List (Option Outline)) (xs : List Outline) → all_present os ≡ Some xs → length xs ≡ length os
present-length os xs e = sym (length-map xs Some) ∙ ap length (none_missing os xs e)

left-length : (os : List (Option Outline)) (left : Option (List Outline)) →
    ((xs : List Outline) → left ≡ Some xs → length xs ≡ length os) → length (in_place_of os left) ≡ length os
left-length os None h = length-map os (λ o. None)
left-length os (Some xs) h = length-map xs Some ∙ h xs refl

value-length : (d : Doc) (u : ℤ) (r : Item) (n : ℕ) (p : Option (List Outline)) →
    ((xs : List Outline) → p ≡ Some xs → length xs ≡ n) → (xs : List Outline) →
    option_and_then (trim_value d u r) p ≡ Some xs → length xs ≡ n
unfolding trim_value
value-length d u r n None h xs e = absurd (cc)
value-length d u r n (Some os) h xs e = value_in-length d u (out-Item r) os xs e ∙ h os refl

-- A trim leaves an outline of each. All else of `trimmed` is closed to the other proofs.
pub trimmed-length : (d : Doc) (u : ℤ) (r : Item) (os : List (Option Outline)) →
    length (trimmed d u r os) ≡ length os
unfolding trimmed
trimmed-length d u r os =
    left-length os (option_and_then (trim_value d u r) (all_present os))
    (value-length d u r (length os) (all_present os) (present-length os))

-- ---- the value of a trim

pub trim-is : (d : Doc) (u : ℤ) (x : Item) (z : Bool) (s e o : Prop ℤ) (m : ℕ) (cut : TrimCut) (os : List Outline) →
    x ≡ Trim z s e o m → cut_with (scalar_value d s u) (scalar_value d e u) (scalar_value d o u) ≡ Some cut →
    trim_value d u x os ≡ Some (trimmed_by m cut os)
unfolding trim_value
trim-is d u x z s e o m cut os is c =
    ap (λ (y : Item-F Item). trimmed_in d u y os) (ap out-Item is ∙ outs-Trim z s e o m)
    ∙ ap (option_map (λ cut. trimmed_by m cut os)) c
