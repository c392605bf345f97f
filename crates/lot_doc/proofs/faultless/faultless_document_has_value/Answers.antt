use Rattle.lot_doc.proofs.FaultlessTables.{document_sound}
use Rattle.lot_doc.proofs.faultless.faultless_document_has_value.Goals as goal

pub returns : goal.returns
returns c = document_sound
