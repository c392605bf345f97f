use Rattle.std.proofs.Common.{◌≡◌, take, map}
use Rattle.lot_refs.specs.Links.{next}
use Rattle.lot_refs.proofs.links.double.Given as goal

abbrev pub invariant-loop-at : goal.invariant-loop-at
invariant-loop-at l = l.made.items ≡ map (next l.links) (take l.at-index l.links)
