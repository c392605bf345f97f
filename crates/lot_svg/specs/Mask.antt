-- Masks of layers, after SVG 1.1, "Masking". The area that they cover is this project's own.
use Rattle.std.specs.Prelude.{ℕ, Bool, true, false, List, [], ◌∷◌, ◌++◌, codes, flat_map}
use Rattle.lot_types.specs.declared.mask_paint.MaskPaint.{MaskPaint}
use Rattle.lot_types.specs.declared.piece.Piece.{Piece}
use Rattle.lot_svg.specs.Element.{attribute, attribute_start, attribute_end, tag_start, tag_end, empty_tag, close_tag}
use Rattle.lot_svg.specs.Number.{opacity_text}
use Rattle.lot_svg.specs.PathData.{path_text, everywhere_text}
use Rattle.lot_svg.specs.Items.{Item, plain, opens, ends, refers}

-- The area of a mask or of a filter: the square that counts as the whole plane.
unfoldable pub region_text : List ℕ
region_text =
    attribute (codes "x") (codes "-100000") ++ attribute (codes "y") (codes "-100000")
    ++ attribute (codes "width") (codes "200000") ++ attribute (codes "height") (codes "200000")

-- White is what the masked layer shows, and black what it does not.
abbrev pub mask_color : Bool → List ℕ
mask_color true = codes "#ffffff"
mask_color false = codes "#000000"

-- A path that covers the whole plane.
unfoldable pub background_text : Bool → List ℕ
background_text white =
    empty_tag (codes "path") (attribute (codes "fill") (mask_color white) ++ attribute (codes "d") everywhere_text)

-- The path data of what an inverted paint has before its contours.
abbrev pub outside_text : Bool → List ℕ
outside_text true = everywhere_text
outside_text false = []

unfoldable pub area_text : MaskPaint → List ℕ
area_text m = outside_text m.inverted ++ path_text m.contours

-- A paint of a mask with this path data, which is not written where there is none.
abbrev pub area_path : MaskPaint → List ℕ → List ℕ
area_path m [] = []
area_path m (byte ∷ more) =
    empty_tag (codes "path") (attribute (codes "fill") (mask_color m.white)
    ++ opacity_text (codes "fill-opacity") m.opacity ++ attribute (codes "fill-rule") (codes "evenodd")
    ++ attribute (codes "d") (byte ∷ more))

unfoldable pub mask_paint_text : MaskPaint → List ℕ
mask_paint_text m = area_path m (area_text m)

-- A white background, or none, which counts as black.
abbrev pub white_text : Bool → List ℕ
white_text true = background_text true
white_text false = []

-- The tag that opens a mask, after its identifier.
unfoldable pub mask_start : List ℕ
mask_start = attribute_end ++ attribute (codes "maskUnits") (codes "userSpaceOnUse") ++ region_text ++ tag_end

-- What a mask has after its identifier.
unfoldable pub mask_content : Piece → List ℕ
mask_content p = mask_start ++ white_text p.white ++ flat_map mask_paint_text p.masks

-- The bytes before the identifier of a mask.
unfoldable pub before_mask : List ℕ
before_mask = tag_start (codes "mask") ++ attribute_start (codes "id")

unfoldable pub mask_end : List ℕ
mask_end = close_tag (codes "mask")

-- The mask of a piece, if it has one.
abbrev pub mask_definition : Bool → Piece → ℕ → List Item
mask_definition true p n = opens before_mask n ∷ plain (mask_content p) ∷ ends mask_end n ∷ []
mask_definition false p n = []

-- The bytes before a reference to a mask.
unfoldable pub before_mask_use : List ℕ
before_mask_use = attribute_start (codes "mask") ++ codes "url(#"

unfoldable pub mask_use_end : List ℕ
mask_use_end = codes ")" ++ attribute_end

-- The attribute by which a group has the mask, if there is one.
abbrev pub mask_attribute : Bool → ℕ → List Item
mask_attribute true n = refers before_mask_use n ∷ plain mask_use_end ∷ []
mask_attribute false n = []
