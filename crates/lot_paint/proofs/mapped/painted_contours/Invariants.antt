-- The leaves before this one are mapped; those that are left make the rest.
use Rattle.std.proofs.Common.{◌≡◌, ◌++◌, drop, flat_map, slice_range, zip}
use Rattle.lot_paint.specs.Contours.{mapped_contours, painted_contours}
use Rattle.lot_paint.proofs.mapped.painted_contours.Given as goal

abbrev pub invariant-loop-i : goal.invariant-loop-i
invariant-loop-i l =
    let leaves = slice_range l.leaves l.at.from l.at.to in
    l.made ++ flat_map mapped_contours (zip (drop l.i leaves) (drop l.i l.at.maps)) ≡ painted_contours l.at l.leaves
