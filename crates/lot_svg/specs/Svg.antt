-- The text of a finished frame in SVG 1.1, "Document Structure".
use Rattle.std.specs.Prelude.{ℕ, ℤ, List, ◌++◌, codes}
use Rattle.lot_types.specs.declared.piece.Piece.{Piece}
use Rattle.lot_types.specs.Frame.{Frame}
use Rattle.lot_svg.specs.Element.{attribute, open_tag, close_tag}
use Rattle.lot_svg.specs.Number.{length_text, length_attribute}
use Rattle.lot_svg.specs.Items.{text_of_items}
use Rattle.lot_svg.specs.Layer.{items}

-- The part of the plane that the picture shows.
unfoldable pub view_box_text : ℤ → ℤ → List ℕ
view_box_text w h = codes "0 0 " ++ length_text w ++ codes " " ++ length_text h

abbrev pub view_box_attribute : ℤ → ℤ → List ℕ
view_box_attribute w h = attribute (codes "viewBox") (view_box_text w h)

unfoldable pub size_text : ℤ → ℤ → List ℕ
size_text w h =
    length_attribute (codes "width") w ++ length_attribute (codes "height") h
    ++ view_box_attribute w h

-- The namespace and the version of the standard.
unfoldable pub namespace_text : List ℕ
namespace_text = attribute (codes "xmlns") (codes "http://www.w3.org/2000/svg")

unfoldable pub version_text : List ℕ
version_text = attribute (codes "version") (codes "1.1")

-- The tag that opens the root element.
unfoldable pub head_text : ℤ → ℤ → List ℕ
head_text w h = open_tag (codes "svg") (namespace_text ++ version_text ++ size_text w h)

unfoldable pub tail_text : List ℕ
tail_text = close_tag (codes "svg")

-- The whole text: the root element of w by h pixels, and the layers in it. Identifiers count from 1.
abbrev pub svg_text : {A : Type 0} → ℤ → ℤ → (A → Piece) → Frame A → List ℕ
svg_text w h piece frame = head_text w h ++ text_of_items (items piece frame 1) ++ tail_text
