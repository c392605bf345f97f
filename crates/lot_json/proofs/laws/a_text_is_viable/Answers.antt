use Rattle.lot_json.proofs.Pieces.{text_viable}
use Rattle.lot_json.proofs.laws.a_text_is_viable.Goals as goal

pub returns : goal.returns
returns c = text_viable
