-- The path data of contours, after SVG 1.1, "Path data". Numbers are separated by one space, and no space stands beside
-- a letter.
use Rattle.std.specs.Prelude.{ℕ, ℤ, pos, Bool, true, false, ◌&&◌, List, [], ◌∷◌, ◌++◌, codes, flat_map, if◌then◌else◌}
use Rattle.std.specs.Ordering.{int_eq}
use Rattle.lot_types.specs.declared.point.Point.{Point}
use Rattle.lot_types.specs.declared.seg.Seg.{Seg}
use Rattle.lot_types.specs.declared.contour.Contour.{Contour}
use Rattle.lot_svg.specs.Number.{length_text}

unfoldable pub point_text : Point → List ℕ
point_text p = length_text p.x ++ codes " " ++ length_text p.y

abbrev pub is_same : Point → Point → Bool
is_same p q = int_eq p.x q.x && int_eq p.y q.y

-- A segment is straight where its first control point is its start, and its second one its end.
abbrev pub is_straight : Point → Seg → Bool
is_straight start s = is_same s.c1 start && is_same s.c2 s.end

unfoldable pub line_text : Seg → List ℕ
line_text s = codes "L" ++ point_text s.end

unfoldable pub curve_text : Seg → List ℕ
curve_text s = codes "C" ++ point_text s.c1 ++ codes " " ++ point_text s.c2 ++ codes " " ++ point_text s.end

unfoldable pub segment_text : Point → Seg → List ℕ
segment_text start s = if is_straight start s then line_text s else curve_text s

abbrev pub is_last : List Seg → Bool
is_last [] = true
is_last (s ∷ after) = false

-- A segment, left out where it is straight and the end of a closed contour draws it.
unfoldable pub kept_text : Bool → Point → Seg → List ℕ
kept_text closes start s = if closes && is_straight start s then [] else segment_text start s

-- Segments, each from the end of the one before it. 'Z' draws a line from the last one to the start of the contour.
abbrev pub segments_text : Bool → Point → List Seg → List ℕ
segments_text closed start [] = []
segments_text closed start (s ∷ after) = kept_text (closed && is_last after) start s ++ segments_text closed s.end after

abbrev pub end_text : Bool → List ℕ
end_text true = codes "Z"
end_text false = []

unfoldable pub contour_text : Contour → List ℕ
contour_text c = codes "M" ++ point_text c.start ++ segments_text c.closed c.start c.segs ++ end_text c.closed

abbrev pub path_text : List Contour → List ℕ
path_text contours = flat_map contour_text contours

-- The closed contour (0, 0), (w, 0), (w, h), (0, h). The last side is the one that closes it.
unfoldable pub rectangle_text : ℤ → ℤ → List ℕ
rectangle_text w h =
    codes "M" ++ point_text record { x = pos 0; y = pos 0 } ++ codes "L" ++ point_text record { x = w; y = pos 0 }
    ++ codes "L" ++ point_text record { x = w; y = h } ++ codes "L" ++ point_text record { x = pos 0; y = h }
    ++ codes "Z"

-- A square of 200,000 pixels around the origin, which counts as the whole plane.
unfoldable pub everywhere_text : List ℕ
everywhere_text = codes "M-100000 -100000L100000 -100000L100000 100000L-100000 100000Z"
