use Rattle.std.proofs.Common.{rules}
use Rattle.lot_paint.proofs.Merging.{opacities_end}
use Rattle.lot_paint.proofs.merged.next_order.Goals as goal

pub returns-then-j-opacities : goal.returns-then-j-opacities
returns-then-j-opacities c = search (rules, opacities_end)
