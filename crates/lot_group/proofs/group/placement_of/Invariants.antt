use Rattle.std.proofs.Common.{◌≡◌, drop}
use Rattle.lot_group.specs.Group.{first_transform}
use Rattle.lot_group.proofs.group.placement_of.Given as goal

abbrev pub invariant-loop-item : goal.invariant-loop-item
invariant-loop-item l = first_transform (drop l.item-index l.items) ≡ first_transform l.items
