use Rattle.lot_json.proofs.Done.{begins_text}
use Rattle.lot_json.proofs.machine.machine.Machine.new.Goals as goal

pub returns : goal.returns
returns c = begins_text c.new.result.items c.new.ensures.items
