-- The points before this one are made; what is left makes the rest.
use Rattle.std.proofs.Common.{◌≡◌, ◌++◌, drop, length}
use Rattle.lot_prop.specs.Value.{points_between}
use Rattle.lot_prop.proofs.bezier.points_between.Given as goal

abbrev pub invariant-loop-i : goal.invariant-loop-i
invariant-loop-i l =
    (l.made ++ points_between l.part (drop l.i l.ps) (drop l.i l.qs) ≡ points_between l.part l.ps l.qs) × (length l.made ≡ l.i)
