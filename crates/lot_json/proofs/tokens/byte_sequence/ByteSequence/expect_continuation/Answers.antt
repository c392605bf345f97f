use Rattle.std.proofs.Common.{arith}
use Rattle.lot_json.proofs.CharacterMoves.{ends_bytes}
use Rattle.lot_json.proofs.tokens.byte_sequence.ByteSequence.expect_continuation.Goals as goal

pub returns : goal.returns
returns c = ((λ t x. (λ h. h, λ h. h)), ends_bytes c.args.left c.args.bits 128 191 (omega arith) (omega arith) c.requires.scalar)
