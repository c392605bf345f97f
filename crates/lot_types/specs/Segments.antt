-- Segments of contours.
use Rattle.lot_types.specs.declared.point.Point.{Point}
use Rattle.lot_types.specs.declared.seg.Seg.{Seg}

-- The straight segment from one point to another.
abbrev pub straight : Point → Point → Seg
straight from to = record { c1 = from; c2 = to; end = to }
