use Rattle.std.proofs.Common.{Option, subst}
use Rattle.lot_json.specs.declared.refusal.JsonRefusal.{JsonRefusal}
use Rattle.lot_json.specs.Fed.{HasTaken}
use Rattle.lot_json.proofs.Pieces.{fed_no_text, is_only, is_no_json_text}
use Rattle.lot_json.proofs.decoder.Decoder.finish.Goals as goal

pub returns-in-Some-clause-refused : goal.returns-in-Some-clause-refused
returns-in-Some-clause-refused c = λ b h. fed_no_text c.args.self.refusal c.in-Some.refusal c.args.self.machine c.args.self.taken b c.in-Some.is h

pub returns-in-Some-finish-clause-only : goal.returns-in-Some-finish-clause-only
returns-in-Some-finish-clause-only c = λ b h.
    let was = subst (λ (z : Option JsonRefusal). HasTaken z c.args.self.machine c.args.self.taken b) c.in_default.is h in
    is_only c.args.self.machine c.args.self.taken b c.in-Some-finish.x was (c.in-Some-finish.ensures.whole was.live)

pub returns-in-None-clause-refused : goal.returns-in-None-clause-refused
returns-in-None-clause-refused c = λ b h.
    let was = subst (λ (z : Option JsonRefusal). HasTaken z c.args.self.machine c.args.self.taken b) c.in_default.is h in
    is_no_json_text c.args.self.machine c.args.self.taken b was c.in-None.ensures.part
