use Rattle.std.proofs.Common.{◌≡◌, drop}
use Rattle.lot_group.specs.Place.{item_at}
use Rattle.lot_group.proofs.place.item_at.Given as goal

abbrev pub invariant-loop-k : goal.invariant-loop-k
invariant-loop-k l = item_at l.list (drop l.k-index l.place) ≡ item_at l.items l.place
