-- Trims of shape layers: the table of their members. The members are those of the Lottie Specification 1.0, "Trim
-- Path"; their defaults, and the order of their faults, are this project's own.
use Rattle.std.specs.Prelude.{pos, codes}
use Rattle.lot_types.specs.declared.item.Item.{Item}
use Rattle.lot_types.specs.declared.item.Item.TheVariants.{Trim}
use Rattle.lot_read.specs.Findings.{Row, good, ◌⊛◌}
use Rattle.lot_read.specs.Rows.{optional}
use Rattle.lot_read.specs.SlotNames.{Names}
use Rattle.lot_read.specs.Transform.{scalar_or, hundred_per_cent}
use Rattle.lot_read.specs.Whole.{whole}
use Rattle.lot_doc.specs.ItemHead.{head_rows}

unfoldable pub trim_rows : Names → Row Item
trim_rows names at m =
    good (λ hidden s e o mode. Trim hidden s e o mode)
    ⊛ head_rows at m
    ⊛ scalar_or (pos 0) names (codes "s") at m
    ⊛ scalar_or hundred_per_cent names (codes "e") at m
    ⊛ scalar_or (pos 0) names (codes "o") at m
    ⊛ optional (codes "m") (whole 1 2) 1 at m
