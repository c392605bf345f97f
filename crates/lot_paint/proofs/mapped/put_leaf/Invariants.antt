-- The contours before this one are mapped.
use Rattle.std.proofs.Common.{◌≡◌, ◌++◌, map, take}
use Rattle.lot_paint.specs.Contours.{mapped_contour}
use Rattle.lot_paint.proofs.mapped.put_leaf.Given as goal

abbrev pub invariant-loop-contour : goal.invariant-loop-contour
invariant-loop-contour l =
    l.made ≡ l.initial.made ++ map (mapped_contour l.m) (take l.contour-index l.leaf.contours)
