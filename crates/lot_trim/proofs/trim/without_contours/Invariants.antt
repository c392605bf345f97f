use Rattle.std.proofs.Common.{◌≡◌, map, take}
use Rattle.lot_trim.specs.Trim.{without_contours}
use Rattle.lot_trim.proofs.trim.without_contours.Given as goal

abbrev pub invariant-loop : goal.invariant-loop
invariant-loop l = l.made ≡ map without_contours (take l.index l.os)
