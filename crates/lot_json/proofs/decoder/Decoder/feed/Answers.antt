use Rattle.std.proofs.Common.{◌++◌, Option, subst}
use Rattle.lot_json.specs.declared.refusal.JsonRefusal.{JsonRefusal}
use Rattle.lot_json.specs.Fed.{HasTaken}
use Rattle.lot_json.proofs.Pieces.{fed_refused, fed_still, is_viable}
use Rattle.lot_json.proofs.decoder.Decoder.feed.Goals as goal

pub returns-in-Some-clause-fed : goal.returns-in-Some-clause-fed
returns-in-Some-clause-fed c = λ b h. fed_still c.args.self.now.refusal c.in-Some.refusal c.args.self.now.machine c.args.self.now.taken b c.args.piece.now c.in-Some.is h

pub returns-in-Some-clause-refused : goal.returns-in-Some-clause-refused
returns-in-Some-clause-refused c = λ b h. fed_refused c.args.self.now.refusal c.in-Some.refusal c.args.self.now.machine c.args.self.now.taken b c.args.piece.now c.in-Some.is h

pub returns-in-Ok-clause-viable : goal.returns-in-Ok-clause-viable
returns-in-Ok-clause-viable c = λ b h.
    let was = subst (λ (z : Option JsonRefusal). HasTaken z c.args.self.now.machine c.args.self.now.taken b) c.in_default.is h in
    is_viable c.read.new.self.machine c.read.new.self.taken (b ++ c.args.piece.now) (c.in-Ok.ensures.reads b was)
