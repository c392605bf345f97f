-- Track mattes as masks and filters, after SVG 1.1, "Masking" and "Filter Effects". A mask shows a layer where it is
-- bright and opaque, so for the opacity of a matte a filter makes colors of opacities. The matrices are this project's
-- own.
use Rattle.std.specs.Prelude.{ℕ, ◌+◌, Bool, true, false, List, [], ◌∷◌, ◌++◌, codes, Option, Some, None}
use Rattle.lot_types.specs.declared.matte.Matte.{Matte}
use Rattle.lot_types.specs.declared.matte.Matte.TheVariants.{No, Alpha, AlphaInv, Luma, LumaInv}
use Rattle.lot_svg.specs.Element.{attribute, attribute_start, attribute_end, tag_start, tag_end, empty_tag, close_tag}
use Rattle.lot_svg.specs.Mask.{region_text, background_text, before_mask, mask_start, mask_end, before_mask_use, mask_use_end}
use Rattle.lot_svg.specs.Items.{Item, plain, opens, ends, refers}

abbrev pub has_matte : Matte → Bool
has_matte No = false
has_matte Alpha = true
has_matte AlphaInv = true
has_matte Luma = true
has_matte LumaInv = true

-- The matrix that makes white of what is opaque.
unfoldable pub of_opacity : List ℕ
of_opacity = codes "0 0 0 0 1 0 0 0 0 1 0 0 0 0 1 0 0 0 1 0"

-- The matrix that makes black of what is opaque.
unfoldable pub of_transparency : List ℕ
of_transparency = codes "0 0 0 0 0 0 0 0 0 0 0 0 0 0 0 0 0 0 1 0"

-- The matrix that exchanges bright and dark.
unfoldable pub of_darkness : List ℕ
of_darkness = codes "-1 0 0 0 1 0 -1 0 0 1 0 0 -1 0 1 0 0 0 1 0"

unfoldable pub before_filter : List ℕ
before_filter = tag_start (codes "filter") ++ attribute_start (codes "id")

-- What a filter with this matrix has after its identifier.
unfoldable pub filter_content : List ℕ → List ℕ
filter_content matrix =
    attribute_end ++ attribute (codes "filterUnits") (codes "userSpaceOnUse") ++ region_text
    ++ attribute (codes "color-interpolation-filters") (codes "sRGB") ++ tag_end
    ++ empty_tag (codes "feColorMatrix") (attribute (codes "type") (codes "matrix")
    ++ attribute (codes "values") matrix)

unfoldable pub before_filter_use : List ℕ
before_filter_use = tag_start (codes "g") ++ attribute_start (codes "filter") ++ codes "url(#"

unfoldable pub use_end : List ℕ
use_end = mask_use_end ++ tag_end

unfoldable pub group_end : List ℕ
group_end = close_tag (codes "g")

abbrev pub filter_items : List ℕ → ℕ → List Item
filter_items matrix n =
    opens before_filter n ∷ plain (filter_content matrix) ∷ ends (close_tag (codes "filter")) n ∷ []

abbrev pub mask_opening : ℕ → List Item
mask_opening n = opens before_mask n ∷ plain mask_start ∷ []

abbrev pub filter_use : ℕ → List Item
filter_use n = refers before_filter_use n ∷ plain use_end ∷ []

-- What comes before a matte, where n is the number of the next identifier: its filter, and the start of its mask.
abbrev pub matte_opening : Matte → ℕ → List Item
matte_opening No n = []
matte_opening Alpha n = filter_items of_opacity n ++ mask_opening (n + 1) ++ filter_use n
matte_opening AlphaInv n =
    filter_items of_transparency n ++ mask_opening (n + 1) ++ (plain (background_text true) ∷ filter_use n)
matte_opening Luma n = mask_opening n
matte_opening LumaInv n =
    filter_items of_darkness n ++ mask_opening (n + 1) ++ (filter_use n ++ plain (background_text false) ∷ [])

-- The number of the mask of a matte, where n was the number of the next identifier before it.
abbrev pub mask_of : Matte → ℕ → Option ℕ
mask_of No n = None
mask_of Alpha n = Some (n + 1)
mask_of AlphaInv n = Some (n + 1)
mask_of Luma n = Some n
mask_of LumaInv n = Some (n + 1)

-- The end of a mask, after that of the group that has the filter.
abbrev pub filtered_end : ℕ → List Item
filtered_end n = plain group_end ∷ ends mask_end n ∷ []

-- What comes after a matte, where n was the number of the next identifier before it.
abbrev pub matte_closing : Matte → ℕ → List Item
matte_closing No n = []
matte_closing Alpha n = filtered_end (n + 1)
matte_closing AlphaInv n = filtered_end (n + 1)
matte_closing Luma n = ends mask_end n ∷ []
matte_closing LumaInv n = filtered_end (n + 1)

-- The group that a matte masks.
abbrev pub mask_use : Option ℕ → List Item
mask_use None = []
mask_use (Some n) = refers (tag_start (codes "g") ++ before_mask_use) n ∷ plain use_end ∷ []
