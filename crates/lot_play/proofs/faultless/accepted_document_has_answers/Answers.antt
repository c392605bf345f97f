use Rattle.lot_play.proofs.Answered.{accepted_answered}
use Rattle.lot_play.proofs.faultless.accepted_document_has_answers.Goals as goal

pub returns : goal.returns
returns c = accepted_answered
