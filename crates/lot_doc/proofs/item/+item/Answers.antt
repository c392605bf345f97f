use Rattle.lot_read.specs.SlotNames.{names_in}
use Rattle.lot_doc.proofs.Levels.{by_level}
use Rattle.lot_doc.proofs.item.+item.Goals as goal

pub read_item-returns-clause-gives : goal.read_item-returns-clause-gives
read_item-returns-clause-gives t c =
    by_level c.read_level.result c.args.uses.now c.read_level.new.uses (names_in c.args.names.now) c.args.at.now c.args.v.now c.read_level.ensures.gives
