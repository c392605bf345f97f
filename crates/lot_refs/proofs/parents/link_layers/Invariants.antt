use Rattle.std.proofs.Common.{◌≡◌, take, map}
use Rattle.lot_refs.specs.Parents.{named}
use Rattle.lot_refs.proofs.parents.link_layers.Given as goal

abbrev pub invariant-loop-x : goal.invariant-loop-x
invariant-loop-x l = l.links ≡ map (λ x. named l.layers x.parent) (take l.x-index l.layers)
