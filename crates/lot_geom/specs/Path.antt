-- The contours of paths, after the Lottie Specification 1.0, "Bezier Shape".
use Rattle.std.specs.Prelude.{ℕ, Bool, List, slice_index_or, [], ◌∷◌, ◌++◌, if◌then◌else◌}
use Rattle.lot_types.specs.declared.contour.Contour.{Contour}
use Rattle.lot_types.specs.declared.point.Point.{Point}
use Rattle.lot_types.specs.declared.seg.Seg.{Seg}
use Rattle.lot_types.specs.Curve.{Curve}
use Rattle.lot_geom.specs.Offset.{moved, no_offset}

-- A vertex with the tangents that enter and leave it.
pub record Vertex : Type 0 where
  pub at : Point
  pub into : Point
  pub out : Point

abbrev pub vertices : List Point → List Point → List Point → List Vertex
vertices [] is os = []
vertices (v ∷ vs) [] os = []
vertices (v ∷ vs) (i ∷ is) [] = []
vertices (v ∷ vs) (i ∷ is) (o ∷ os) = record { at = v; into = i; out = o } ∷ vertices vs is os

-- The curve from one vertex to another.
abbrev pub curve_between : Vertex → Vertex → Seg
curve_between from to = record { c1 = moved from.at from.out; c2 = moved to.at to.into; end = to.at }

-- The curve from each vertex to that of the same place in the other list.
abbrev pub curves : List Vertex → List Vertex → List Seg
curves [] tos = []
curves (from ∷ froms) [] = []
curves (from ∷ froms) (to ∷ tos) = curve_between from to ∷ curves froms tos

-- From each vertex to the next, and from the last to the first where the path is closed.
abbrev pub segs_of : Bool → List Vertex → List Seg
segs_of closed [] = []
segs_of closed (first ∷ rest) = curves (first ∷ rest) (if closed then rest ++ first ∷ [] else rest)

-- A path without vertices has no contour.
abbrev pub contours_of : Bool → List Vertex → List Contour
contours_of closed [] = []
contours_of closed (first ∷ rest) =
    record { closed = closed; start = first.at; segs = segs_of closed (first ∷ rest) } ∷ []

abbrev pub vertices_of : Curve → List Vertex
vertices_of b = vertices b.v b.i b.o

unfoldable pub path_contours : Curve → List Contour
path_contours b = contours_of b.closed (vertices_of b)

-- What the code reads of a path: its vertex at an index.
abbrev pub vertex_at : Curve → ℕ → Vertex
vertex_at b k = record {
  at = slice_index_or b.v k no_offset;
  into = slice_index_or b.i k no_offset;
  out = slice_index_or b.o k no_offset;
}
