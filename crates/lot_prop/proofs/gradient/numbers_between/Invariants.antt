-- The numbers before this one are made; what is left makes the rest.
use Rattle.std.proofs.Common.{◌≡◌, ◌++◌, drop, length}
use Rattle.lot_prop.specs.Value.{numbers_between}
use Rattle.lot_prop.proofs.gradient.numbers_between.Given as goal

abbrev pub invariant-loop-i : goal.invariant-loop-i
invariant-loop-i l =
    (l.made ++ numbers_between l.part (drop l.i l.xs) (drop l.i l.ys) ≡ numbers_between l.part l.xs l.ys) × (length l.made ≡ l.i)
