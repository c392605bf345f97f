-- Closed contours and their segments.
use Rattle.std.specs.Prelude.{true, List}
use Rattle.lot_types.specs.declared.contour.Contour.{Contour}
use Rattle.lot_types.specs.declared.point.Point.{Point}
use Rattle.lot_types.specs.declared.seg.Seg.{Seg}

-- The segment by two control points to an end.
abbrev pub curved : Point → Point → Point → Seg
curved by and to = record { c1 = by; c2 = and; end = to }

abbrev pub closed : Point → List Seg → Contour
closed start segs = record { closed = true; start = start; segs = segs }
