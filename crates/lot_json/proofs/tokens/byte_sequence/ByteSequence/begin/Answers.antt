use Rattle.std.proofs.Common.{inl, inr, arith}
use Rattle.lot_json.proofs.CharacterBegins.{not_first}
use Rattle.lot_json.proofs.tokens.byte_sequence.ByteSequence.begin.Goals as goal

pub returns-in-0-to-193 : goal.returns-in-0-to-193
returns-in-0-to-193 c = λ t x h. not_first c.args.c t x (omega arith) (inl (omega arith)) h

pub returns-in_default : goal.returns-in_default
returns-in_default c = λ t x h. not_first c.args.c t x (omega arith) (inr (omega arith)) h
