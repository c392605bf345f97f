-- Rectangles, after the Lottie Specification 1.0, "Rectangle". The control points of rounded corners and the limits are
-- this project's own.
use Rattle.std.specs.Prelude.{ℤ, pos, List, [], ◌∷◌, if◌then◌else◌}
use Rattle.std.specs.Int.{int_min}
use Rattle.std.specs.Ordering.{int_eq}
use Rattle.lot_types.specs.declared.contour.Contour.{Contour}
use Rattle.lot_types.specs.declared.point.Point.{Point}
use Rattle.lot_types.specs.declared.seg.Seg.{Seg}
use Rattle.lot_types.specs.Points.{point}
use Rattle.lot_types.specs.Segments.{straight}
use Rattle.lot_types.specs.Handles.{nearest_in}
use Rattle.lot_outline.specs.declared.sides.Sides.{Sides}
use Rattle.lot_outline.specs.Arc.{arc_handle}
use Rattle.lot_outline.specs.Closed.{curved, closed}
use Rattle.lot_outline.specs.Number.{minus, half}
use Rattle.lot_outline.specs.Sides.{sides_around, inset}

-- The radius of the corners of a rectangle of the size s: the nearest number to r from 0 to the half of the shorter
-- side.
unfoldable pub corner_radius : Point → ℤ → ℤ
corner_radius s r = nearest_in (pos 0, int_min (half s.x) (half s.y)) r

-- From the right upper corner, clockwise.
abbrev pub sharp_segs : Sides → List Seg
sharp_segs b =
    straight (point b.right b.top) (point b.right b.bottom)
    ∷ straight (point b.right b.bottom) (point b.left b.bottom)
    ∷ straight (point b.left b.bottom) (point b.left b.top)
    ∷ straight (point b.left b.top) (point b.right b.top)
    ∷ []

-- From below the right upper corner, clockwise: straight along the sides b as far as the lines i, which are the radius
-- further in, and round each corner by control points on the lines h.
unfoldable pub rounded_segs : Sides → Sides → Sides → List Seg
rounded_segs b i h =
    straight (point b.right i.top) (point b.right i.bottom)
    ∷ curved (point b.right h.bottom) (point h.right b.bottom) (point i.right b.bottom)
    ∷ straight (point i.right b.bottom) (point i.left b.bottom)
    ∷ curved (point h.left b.bottom) (point b.left h.bottom) (point b.left i.bottom)
    ∷ straight (point b.left i.bottom) (point b.left i.top)
    ∷ curved (point b.left h.top) (point h.left b.top) (point i.left b.top)
    ∷ straight (point i.left b.top) (point i.right b.top)
    ∷ curved (point h.right b.top) (point b.right h.top) (point b.right i.top)
    ∷ []

abbrev pub sharp : Sides → Contour
sharp b = closed (point b.right b.top) (sharp_segs b)

-- With corners of the radius r.
abbrev pub rounded : Sides → ℤ → Contour
rounded b r =
    let corners = inset b r in
    let handles = inset b (minus r (arc_handle r)) in
    closed (point b.right corners.top) (rounded_segs b corners handles)

abbrev pub with_corners : Sides → ℤ → Contour
with_corners b r = if int_eq r (pos 0) then sharp b else rounded b r

-- The rectangle about the center p of the size s, with corners of the radius r.
unfoldable pub rectangle : Point → Point → ℤ → Contour
rectangle p s r = with_corners (sides_around p (half s.x) (half s.y)) (corner_radius s r)
