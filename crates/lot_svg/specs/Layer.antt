-- The layers of a frame as items, after SVG 1.1, "Document Structure" and "Clipping". How a layer is made of groups is
-- this project's own.
use Rattle.std.specs.Prelude.{ℕ, ℤ, Bool, true, false, List, [], ◌∷◌, ◌++◌, codes, map, Option, Some, None}
use Rattle.lot_types.specs.declared.piece.Piece.{Piece}
use Rattle.lot_types.specs.Frame.{Frame, nothing, node, ClipSize}
use Rattle.lot_svg.specs.Element.{attribute, attribute_start, attribute_end, tag_start, tag_end, empty_tag, close_tag}
use Rattle.lot_svg.specs.Number.{opacity_text, transform_text}
use Rattle.lot_svg.specs.PathData.{rectangle_text}
use Rattle.lot_svg.specs.Items.{Item, plain, opens, ends, refers, parts}
use Rattle.lot_svg.specs.Paint.{paint_items}
use Rattle.lot_svg.specs.Mask.{mask_definition, mask_attribute}
use Rattle.lot_svg.specs.Matte.{has_matte, matte_opening, matte_closing, mask_of, mask_use, use_end, group_end}

-- The tag that opens the group of a layer, up to its mask: the transform and the opacity.
unfoldable pub group_start : Piece → List ℕ
group_start p = tag_start (codes "g") ++ transform_text p.matrix ++ opacity_text (codes "opacity") p.opacity

-- The mask of a layer, if it has one, and the tag that opens its group.
abbrev pub group_opening : Piece → ℕ → List Item
group_opening p n =
    mask_definition p.masked p n ++ plain (group_start p) ∷ (mask_attribute p.masked n ++ plain tag_end ∷ [])

-- What a clip has after its identifier.
unfoldable pub clip_content : ℤ → ℤ → List ℕ
clip_content w h = attribute_end ++ tag_end ++ empty_tag (codes "path") (attribute (codes "d") (rectangle_text w h))

unfoldable pub before_clip : List ℕ
before_clip = tag_start (codes "clipPath") ++ attribute_start (codes "id")

unfoldable pub clip_end : List ℕ
clip_end = close_tag (codes "clipPath")

unfoldable pub before_clip_use : List ℕ
before_clip_use = tag_start (codes "g") ++ attribute_start (codes "clip-path") ++ codes "url(#"

-- The clip of a composition, and the group that it clips.
abbrev pub clip_opening : Option ClipSize → ℕ → List Item
clip_opening None n = []
clip_opening (Some size) n =
    opens before_clip n ∷ plain (clip_content size.w size.h) ∷ ends clip_end n
    ∷ refers before_clip_use n ∷ plain use_end ∷ []

abbrev pub clip_closing : Option ClipSize → List Item
clip_closing None = []
clip_closing (Some size) = plain group_end ∷ []

-- The end of a layer's group, and of the group that its matte masks.
abbrev pub layer_closing : Bool → List Item
layer_closing true = plain group_end ∷ plain group_end ∷ []
layer_closing false = plain group_end ∷ []

-- The items of layers, where n is the number of the next identifier. Of each: its matte in a mask, its own mask and its
-- group, its paints, or its composition in a clip, and the ends of its groups.
abbrev pub items : {A : Type 0} → (A → Piece) → Frame A → ℕ → List Item
items piece nothing n = []
items piece (node at kind matte clip inner rest) n =
    parts (
    matte_opening kind ∷ items piece matte ∷ (λ _. matte_closing kind n) ∷
    (λ _. mask_use (mask_of kind n)) ∷ group_opening (piece at) ∷
    parts (map paint_items (piece at).paints) ∷
    clip_opening clip ∷ items piece inner ∷ (λ _. clip_closing clip) ∷
    (λ _. layer_closing (has_matte kind)) ∷ items piece rest ∷ []) n
