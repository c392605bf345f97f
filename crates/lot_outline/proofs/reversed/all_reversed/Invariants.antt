use Rattle.std.proofs.Common.{◌≡◌, map, take}
use Rattle.lot_outline.specs.Reversed.{reversed}
use Rattle.lot_outline.proofs.reversed.all_reversed.Given as goal

abbrev pub invariant-loop-contour : goal.invariant-loop-contour
invariant-loop-contour l = l.made ≡ map reversed (take l.contour-index l.contours)
