-- The contours that a style paints, after the Lottie Specification 1.0, "Shapes".
use Rattle.std.specs.Prelude.{List, map, flat_map, zip, slice_range}
use Rattle.lot_geom.specs.Matrix.{mapped}
use Rattle.lot_types.specs.declared.contour.Contour.{Contour}
use Rattle.lot_types.specs.declared.matrix.Matrix.{Matrix}
use Rattle.lot_types.specs.declared.outline.Outline.{Outline}
use Rattle.lot_types.specs.declared.painted.Painted.{Painted}
use Rattle.lot_types.specs.declared.seg.Seg.{Seg}

-- Each point is mapped by itself.
abbrev pub mapped_seg : Matrix → Seg → Seg
mapped_seg m s = record { c1 = mapped m s.c1; c2 = mapped m s.c2; end = mapped m s.end }

abbrev pub mapped_contour : Matrix → Contour → Contour
mapped_contour m c = record { closed = c.closed; start = mapped m c.start; segs = map (mapped_seg m) c.segs }

-- The contours of a leaf, mapped from its space to that of the style.
abbrev pub mapped_contours : Outline × Matrix → List Contour
mapped_contours p = map (mapped_contour p.1) p.0.contours

-- The leaves that a style paints, each with its map.
abbrev pub leaves_with_maps : Painted → List Outline → List (Outline × Matrix)
leaves_with_maps at leaves = zip (slice_range leaves at.from at.to) at.maps

-- The contours of these leaves, in order.
abbrev pub painted_contours : Painted → List Outline → List Contour
painted_contours at leaves = flat_map mapped_contours (leaves_with_maps at leaves)
