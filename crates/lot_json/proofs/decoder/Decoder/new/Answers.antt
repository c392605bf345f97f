use Rattle.lot_json.proofs.Pieces.{reads_nothing}
use Rattle.lot_json.proofs.decoder.Decoder.new.Goals as goal

pub returns : goal.returns
returns c = reads_nothing c.new.result c.new.ensures
