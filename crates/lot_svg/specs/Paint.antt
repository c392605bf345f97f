-- The text of a paint, after SVG 1.1, "Painting: Filling, Stroking and Marker Symbols" and "Gradients and Patterns".
-- What is left out, and the order of attributes, are this project's own.
use Rattle.std.specs.Prelude.{ℕ, ℤ, Bool, true, false, ◌==◌, List, [], ◌∷◌, ◌++◌, codes, flat_map, Option, Some, None, if◌then◌else◌}
use Rattle.lot_types.specs.declared.point.Point.{Point}
use Rattle.lot_types.specs.declared.stop.Stop.{Stop}
use Rattle.lot_types.specs.declared.ink.Ink.{Ink}
use Rattle.lot_types.specs.declared.ink.Ink.TheVariants.{Flat, Linear, Radial}
use Rattle.lot_types.specs.declared.brush.Brush.{Brush}
use Rattle.lot_types.specs.declared.brush.Brush.TheVariants.{Fill, Stroke}
use Rattle.lot_types.specs.declared.contour.Contour.{Contour}
use Rattle.lot_types.specs.declared.paint.Paint.{Paint}
use Rattle.lot_svg.specs.Element.{attribute, attribute_start, attribute_end, tag_start, tag_end, empty_tag, empty_tag_end, close_tag}
use Rattle.lot_svg.specs.Number.{color_text, fraction_text, length_text, length_attribute, opacity_text, transform_text}
use Rattle.lot_svg.specs.PathData.{path_text}
use Rattle.lot_svg.specs.Items.{Item, plain, opens, ends, refers}

-- A stop of a gradient, with all of its attributes.
unfoldable pub stop_text : Stop → List ℕ
stop_text s =
    empty_tag (codes "stop") (attribute (codes "offset") (fraction_text s.offset)
    ++ attribute (codes "stop-color") (color_text s.rgb) ++ attribute (codes "stop-opacity") (fraction_text s.alpha))

unfoldable pub units_text : List ℕ
units_text = attribute (codes "gradientUnits") (codes "userSpaceOnUse")

-- The attributes of a linear gradient after its identifier.
unfoldable pub linear_text : Point → Point → List ℕ
linear_text from to =
    units_text ++ length_attribute (codes "x1") from.x ++ length_attribute (codes "y1") from.y
    ++ length_attribute (codes "x2") to.x ++ length_attribute (codes "y2") to.y

-- The attributes of a radial gradient after its identifier.
unfoldable pub radial_text : Point → ℤ → Point → List ℕ
radial_text center radius focus =
    units_text ++ length_attribute (codes "cx") center.x ++ length_attribute (codes "cy") center.y
    ++ length_attribute (codes "r") radius ++ length_attribute (codes "fx") focus.x
    ++ length_attribute (codes "fy") focus.y

-- A definition of a gradient with this name and these attributes.
abbrev pub gradient_definition : List ℕ → List ℕ → List Stop → ℕ → List Item
gradient_definition name attributes stops n =
    opens (tag_start name ++ attribute_start (codes "id")) n
    ∷ plain (attribute_end ++ attributes ++ tag_end ++ flat_map stop_text stops) ∷ ends (close_tag name) n ∷ []

-- What an ink defines.
abbrev pub ink_definition : Ink → ℕ → List Item
ink_definition (Flat rgb) n = []
ink_definition (Linear from to stops) n = gradient_definition (codes "linearGradient") (linear_text from to) stops n
ink_definition (Radial center radius focus stops) n =
    gradient_definition (codes "radialGradient") (radial_text center radius focus) stops n

-- A reference to the definition whose number is n.
abbrev pub reference : ℕ → List Item
reference n = refers (codes "url(#") n ∷ plain (codes ")") ∷ []

-- The value of the attribute for an ink whose definition, if it has one, has the number n.
abbrev pub ink_value : Ink → ℕ → List Item
ink_value (Flat rgb) n = plain (color_text rgb) ∷ []
ink_value (Linear from to stops) n = reference n
ink_value (Radial center radius focus stops) n = reference n

-- What comes before the ink.
unfoldable pub before_ink : Brush → List ℕ
before_ink (Fill even_odd) = tag_start (codes "path") ++ attribute_start (codes "fill")
before_ink (Stroke width cap join miter dashes dash_offset) =
    tag_start (codes "path") ++ attribute (codes "fill") (codes "none") ++ attribute_start (codes "stroke")

-- The attribute of the rule by which a point is inside, left out for SVG's own, 'nonzero'.
abbrev pub rule_text : Bool → List ℕ
rule_text true = attribute (codes "fill-rule") (codes "evenodd")
rule_text false = []

abbrev pub cap_text : ℕ → List ℕ
cap_text cap = if cap == 1 then codes "butt" else (if cap == 2 then codes "round" else codes "square")

abbrev pub join_text : ℕ → List ℕ
join_text join = if join == 1 then codes "miter" else (if join == 2 then codes "round" else codes "bevel")

-- The attribute of the miter limit, left out where the corners are not mitered.
abbrev pub miter_text : ℕ → ℤ → List ℕ
miter_text join limit = if join == 1 then length_attribute (codes "stroke-miterlimit") limit else []

-- Lengths after the first one, each after a space.
abbrev pub more_lengths_text : List ℤ → List ℕ
more_lengths_text lengths = flat_map (λ length. codes " " ++ length_text length) lengths

-- The attribute of dashes, left out where the line is whole.
abbrev pub dashes_text : List ℤ → List ℕ
dashes_text [] = []
dashes_text (dash ∷ more) = attribute (codes "stroke-dasharray") (length_text dash ++ more_lengths_text more)

abbrev pub dash_offset_text : Option ℤ → List ℕ
dash_offset_text None = []
dash_offset_text (Some offset) = length_attribute (codes "stroke-dashoffset") offset

-- The attributes of a brush and of its opacity, after the ink.
unfoldable pub brush_text : Brush → ℤ → List ℕ
brush_text (Fill even_odd) opacity = opacity_text (codes "fill-opacity") opacity ++ rule_text even_odd
brush_text (Stroke width cap join miter dashes dash_offset) opacity =
    opacity_text (codes "stroke-opacity") opacity ++ length_attribute (codes "stroke-width") width
    ++ attribute (codes "stroke-linecap") (cap_text cap) ++ attribute (codes "stroke-linejoin") (join_text join)
    ++ miter_text join miter ++ dashes_text dashes ++ dash_offset_text dash_offset

-- The attribute of path data.
abbrev pub data_text : List Contour → List ℕ
data_text contours = attribute (codes "d") (path_text contours)

-- What comes after the ink.
unfoldable pub after_ink : Paint → List ℕ
after_ink p =
    attribute_end ++ brush_text p.brush p.opacity ++ transform_text p.matrix
    ++ data_text p.contours ++ empty_tag_end

-- The path of a paint whose ink has the number n.
abbrev pub path_items : Paint → ℕ → List Item
path_items p n = plain (before_ink p.brush) ∷ (ink_value p.ink n ++ plain (after_ink p) ∷ [])

abbrev pub where_drawn : List Contour → List Item → List Item
where_drawn [] items = []
where_drawn (c ∷ contours) items = items

-- A paint: the definition of its gradient, if it has one, and its path. Without contours it is not written.
abbrev pub paint_items : Paint → ℕ → List Item
paint_items p n = where_drawn p.contours (ink_definition p.ink n ++ path_items p n)
