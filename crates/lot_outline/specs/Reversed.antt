-- Contours that run the other way, after the Lottie Specification 1.0, "Shape Direction".
use Rattle.std.specs.Prelude.{ℤ, pos, ◌*◌, ◌^◌, Bool, false, List, [], ◌∷◌, ◌++◌, map, Option, Some, None, if◌then◌else◌}
use Rattle.std.specs.Ordering.{int_eq}
use Rattle.lot_types.specs.declared.contour.Contour.{Contour}
use Rattle.lot_types.specs.declared.point.Point.{Point}
use Rattle.lot_types.specs.declared.seg.Seg.{Seg}

-- Where segments from p end.
abbrev pub end_of : Point → List Seg → Point
end_of p [] = p
end_of p (seg ∷ segs) = end_of seg.end segs

-- The segment that starts at p, from its end back to there.
abbrev pub seg_back : Point → Seg → Seg
seg_back p seg = record { c1 = seg.c2; c2 = seg.c1; end = p }

-- Segments from p, back to there: the last one first.
unfoldable pub segs_back : Point → List Seg → List Seg
segs_back p [] = []
segs_back p (seg ∷ segs) = segs_back seg.end segs ++ seg_back p seg ∷ []

-- The contour the other way. A closed one ends where it starts, and so it starts there again.
unfoldable pub reversed : Contour → Contour
reversed c = record { closed = c.closed; start = end_of c.start c.segs; segs = segs_back c.start c.segs }

-- The direction `d` of a shape is 3.
abbrev pub is_reverse : Option ℤ → Bool
is_reverse None = false
is_reverse (Some d) = int_eq d (pos (3 * 10 ^ 6))

-- The contours of a shape in its direction.
unfoldable pub directed : Option ℤ → List Contour → List Contour
directed d contours = if is_reverse d then map reversed contours else contours
