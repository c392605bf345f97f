-- The groups that are left make the rest of the product.
use Rattle.std.proofs.Common.{◌≡◌, drop}
use Rattle.lot_paint.specs.Opacity.{within_groups}
use Rattle.lot_paint.proofs.opacity.within_groups.Given as goal

abbrev pub invariant-loop-group : goal.invariant-loop-group
invariant-loop-group l = within_groups (drop l.group-index l.groups) l.made ≡ within_groups l.groups l.fn.opacity
