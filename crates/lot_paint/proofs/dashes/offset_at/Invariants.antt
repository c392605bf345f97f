-- No number from this place on is an offset.
use Rattle.std.proofs.Common.{◌≡◌, ◌≤◌, length, take}
use Rattle.lot_paint.specs.Dashes.{last_offset}
use Rattle.lot_paint.proofs.dashes.offset_at.Given as goal

abbrev pub invariant-loop-i : goal.invariant-loop-i
invariant-loop-i l = (l.i ≤ length l.dashes) × (last_offset (take l.i l.dashes) ≡ last_offset l.dashes)

abbrev pub decreases-loop-i : goal.decreases-loop-i
decreases-loop-i l = l.i
