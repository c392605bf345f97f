use Rattle.std.proofs.Common.{◌≡◌, flat_map, take}
use Rattle.lot_geom.specs.Lengths.{curves_of}
use Rattle.lot_trim.specs.Kept.{parts_in}
use Rattle.lot_trim.proofs.placed_contour.PlacedContour.put_joined.Given as goal

abbrev pub invariant-loop-i : goal.invariant-loop-i
invariant-loop-i l =
    l.parts.items ≡ flat_map (λ i. parts_in i l.self.start (curves_of l.self.contour.now)) (take l.i-index l.intervals)
