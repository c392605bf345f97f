-- What a trim of a list of items leaves of outlines at a time, after the Lottie Specification 1.0, "Trim Path".
use Rattle.std.specs.Prelude.{ℕ, ℤ, ◌==◌, List, Option, Some, None, option_map, if◌then◌else◌}
use Rattle.lot_prop.specs.Slots.{scalar_value}
use Rattle.lot_trim.specs.declared.cut.TrimCut.{TrimCut}
use Rattle.lot_trim.specs.Trim.{trimmed_run, trimmed_each}
use Rattle.lot_types.specs.declared.doc.Doc.{Doc}
use Rattle.lot_types.specs.declared.item.Item.{Item, out-Item}
use Rattle.lot_types.specs.declared.item.Item.TheOpen.{Item-F}
use Rattle.lot_types.specs.declared.item.Item.TheOpen as item
use Rattle.lot_types.specs.declared.outline.Outline.{Outline}

-- The members of a trim, where each has a value.
abbrev pub cut_with : Option ℤ → Option ℤ → Option ℤ → Option TrimCut
cut_with (Some s) (Some e) (Some o) = Some (record { s = s; e = e; o = o })
cut_with (Some s) (Some e) None = None
cut_with (Some s) None o = None
cut_with None e o = None

-- By the mode 1 each outline is measured by itself, and by the mode 2 all of them one after the other. A number that is
-- none of them counts as 2.
abbrev pub trimmed_by : ℕ → TrimCut → List Outline → List Outline
trimmed_by mode cut os = if mode == 1 then trimmed_each cut os else trimmed_run cut os

-- An item that is no trim leaves nothing that has a value.
abbrev pub trimmed_in : Doc → ℤ → Item-F Item → List Outline → Option (List Outline)
trimmed_in d t (item.Group hidden it) os = None
trimmed_in d t (item.Rect hidden p s r direction) os = None
trimmed_in d t (item.Ellipse hidden p s direction) os = None
trimmed_in d t (item.Star hidden sy pt p r or_ os_ ir is_ direction) os = None
trimmed_in d t (item.Path hidden ks direction) os = None
trimmed_in d t (item.Fill hidden c o r) os = None
trimmed_in d t (item.Stroke hidden c o w lc lj ml dashes) os = None
trimmed_in d t (item.GradientFill hidden o s e kind g h a r) os = None
trimmed_in d t (item.GradientStroke hidden o s e kind g h a w lc lj ml dashes) os = None
trimmed_in d t (item.Trim hidden s e o m) os =
    option_map (λ cut. trimmed_by m cut os) (cut_with (scalar_value d s t) (scalar_value d e t) (scalar_value d o t))
trimmed_in d t (item.Place hidden ks) os = None

-- What a trim leaves of outlines, in order.
unfoldable pub trim_value : Doc → ℤ → Item → List Outline → Option (List Outline)
trim_value d t r os = trimmed_in d t (out-Item r) os
