-- Stars and polygons, after the Lottie Specification 1.0, "PolyStar". The rounding and the limits are this project's
-- own.
use Rattle.std.specs.Prelude.{ℕ, ℤ, pos, neg_ℤ, unsigned_abs, ◌+◌, ◌*◌, ◌^◌, ◌%◌, ◌==◌, ◌+ℤ◌, ◌-ℤ◌, ◌*ℤ◌, map, if◌then◌else◌}
use Rattle.std.specs.List.{range_with_len}
use Rattle.lot_num.specs.Angle.{sine, cosine, full_turn, quarter_turn}
use Rattle.lot_num.specs.Round.{rnd, limit, product}
use Rattle.lot_geom.specs.Offset.{moved}
use Rattle.lot_types.specs.declared.contour.Contour.{Contour}
use Rattle.lot_types.specs.declared.point.Point.{Point}
use Rattle.lot_types.specs.declared.seg.Seg.{Seg}
use Rattle.lot_types.specs.Handles.{nearest_in}
use Rattle.lot_outline.specs.declared.polystar.Polystar.{Polystar}
use Rattle.lot_outline.specs.declared.polystar.Ring.{Ring}
use Rattle.lot_outline.specs.declared.polystar.Vertex.{Vertex}
use Rattle.lot_outline.specs.Closed.{closed, curved}
use Rattle.lot_outline.specs.Number.{minus}

-- The number of points: `pt` rounded, from 3 to 1000.
unfoldable pub point_count : ℤ → ℕ
point_count pt = unsigned_abs (nearest_in (pos 3, pos 1000) (rnd pt (pos (10 ^ 6))))

-- A quarter of the circumference of the circle of radius 1, in millionths.
abbrev pub quarter_circle : ℕ
quarter_circle = 1570796

-- The length of the tangents of vertices at a radius, where there are n points: the part that the roundness says, in
-- per cent, of the n-th part of a quarter of the circle.
unfoldable pub tangent_length : ℤ → ℤ → ℕ → ℤ
tangent_length radius roundness n =
    limit (rnd (radius *ℤ rnd roundness (pos 100) *ℤ pos quarter_circle) (pos (n * 10 ^ 12)))

-- The ring of the vertices at a radius.
abbrev pub ring_of : ℤ → ℤ → ℕ → Ring
ring_of radius roundness n = record { radius = radius; tangent = tangent_length radius roundness n }

-- A star has two vertices for each point, in turn on the outer and on the inner ring.
abbrev pub star : Point → ℤ → ℕ → Ring → Ring → Polystar
star center rotation n outer inner =
    record { center = center; rotation = rotation; vertices = 2 * n; even = outer; odd = inner }

-- A polygon has one for each, on the outer ring.
abbrev pub polygon : Point → ℤ → ℕ → Ring → Polystar
polygon center rotation n outer =
    record { center = center; rotation = rotation; vertices = n; even = outer; odd = outer }

-- The shape of the kind `sy`, where there are n points: 1 is a star, and every other number counts as 2, a polygon.
abbrev pub polystar_of_kind : ℕ → Point → ℤ → ℕ → Ring → Ring → Polystar
polystar_of_kind sy center rotation n outer inner =
    if sy == 1 then star center rotation n outer inner else polygon center rotation n outer

-- The angle from the first of m vertices to vertex j, clockwise.
abbrev pub turn_to : ℕ → ℕ → ℤ
turn_to j m = rnd (pos (j * full_turn)) (pos m)

-- The angle at which vertex j of m is seen from the center. The first one is above it where the rotation is 0.
unfoldable pub vertex_angle : ℤ → ℕ → ℕ → ℤ
vertex_angle rotation j m = limit (rotation -ℤ pos quarter_turn +ℤ turn_to j m)

-- A coordinate at a distance along a radius.
unfoldable pub along_radius : ℤ → ℤ → ℤ → ℤ
along_radius x radius part = limit (x +ℤ rnd (radius *ℤ part) (pos (10 ^ 6)))

-- The vertex of a ring at an angle of the given sine and cosine. Its tangent is clockwise along the ring.
abbrev pub ring_vertex : Point → Ring → ℤ → ℤ → Vertex
ring_vertex center ring sine cosine = record {
  at = record { x = along_radius center.x ring.radius cosine; y = along_radius center.y ring.radius sine };
  tangent = record { x = product ring.tangent (neg_ℤ sine); y = product ring.tangent cosine };
}

-- The vertices are in turn on the two rings.
abbrev pub ring_at : Polystar → ℕ → Ring
ring_at s j = if j % 2 == 0 then s.even else s.odd

unfoldable pub vertex : Polystar → ℕ → Vertex
vertex s j =
    let angle = vertex_angle s.rotation j s.vertices in ring_vertex s.center (ring_at s j) (sine angle) (cosine angle)

-- The point at an offset the other way.
abbrev pub moved_back : Point → Point → Point
moved_back p by = record { x = minus p.x by.x; y = minus p.y by.y }

abbrev pub segment_between : Vertex → Vertex → Seg
segment_between from to = curved (moved from.at from.tangent) (moved_back to.at to.tangent) to.at

-- The vertex after the last is the first.
abbrev pub vertex_after : Polystar → ℕ → Vertex
vertex_after s j = vertex s (if j + 1 == s.vertices then 0 else j + 1)

abbrev pub seg_from : Polystar → ℕ → Seg
seg_from s j = segment_between (vertex s j) (vertex_after s j)

-- The closed contour from each vertex to the next, clockwise.
unfoldable pub polystar : Polystar → Contour
polystar s = closed (vertex s 0).at (map (seg_from s) (range_with_len 0 s.vertices))
