use Rattle.lot_json.proofs.Pieces.{prefix_viable}
use Rattle.lot_json.proofs.laws.a_prefix_is_viable.Goals as goal

pub returns : goal.returns
returns c = prefix_viable
