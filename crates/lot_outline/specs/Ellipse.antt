-- Ellipses, after the Lottie Specification 1.0, "Ellipse". The control points and the limits are this project's own.
use Rattle.std.specs.Prelude.{ℤ, List, [], ◌∷◌}
use Rattle.lot_types.specs.declared.contour.Contour.{Contour}
use Rattle.lot_types.specs.declared.point.Point.{Point}
use Rattle.lot_types.specs.declared.seg.Seg.{Seg}
use Rattle.lot_types.specs.Points.{point}
use Rattle.lot_outline.specs.declared.sides.Sides.{Sides}
use Rattle.lot_outline.specs.Arc.{arc_handle}
use Rattle.lot_outline.specs.Closed.{curved, closed}
use Rattle.lot_outline.specs.Number.{half}
use Rattle.lot_outline.specs.Sides.{sides_around}

-- Four quarters about the center p within the sides b, clockwise from the top, by control points on the lines h.
unfoldable pub quarters : Point → Sides → Sides → List Seg
quarters p b h =
    curved (point h.right b.top) (point b.right h.top) (point b.right p.y)
    ∷ curved (point b.right h.bottom) (point h.right b.bottom) (point p.x b.bottom)
    ∷ curved (point h.left b.bottom) (point b.left h.bottom) (point b.left p.y)
    ∷ curved (point b.left h.top) (point h.left b.top) (point p.x b.top)
    ∷ []

-- The ellipse about the center p with the radii rx and ry.
abbrev pub ellipse_of_radii : Point → ℤ → ℤ → Contour
ellipse_of_radii p rx ry =
    let sides = sides_around p rx ry in
    let handles = sides_around p (arc_handle rx) (arc_handle ry) in
    closed (point p.x sides.top) (quarters p sides handles)

-- The ellipse about the center p of the size s.
unfoldable pub ellipse : Point → Point → Contour
ellipse p s = ellipse_of_radii p (half s.x) (half s.y)
