-- What is made, and then what is left of both lists, is the whole.
use Rattle.std.proofs.Common.{◌+◌, ◌-◌, length}
use Rattle.lot_paint.specs.Stops.{color_stops, opacity_stops}
use Rattle.lot_paint.proofs.Merging.{IsMerging}
use Rattle.lot_paint.proofs.merged.merged_stops.Given as goal

abbrev pub invariant-loop-i : goal.invariant-loop-i
invariant-loop-i l = IsMerging l.g l.i l.j l.made

abbrev pub decreases-loop-i : goal.decreases-loop-i
decreases-loop-i l = (length (color_stops l.g) - l.i) + (length (opacity_stops l.g) - l.j)
