use Rattle.lot_json.proofs.CharacterMoves.{two_bytes}
use Rattle.lot_json.proofs.tokens.byte_sequence.ByteSequence.begin_two.Goals as goal

pub returns : goal.returns
returns c = let s = two_bytes c.args.c c.from.result c.from.ensures c.requires.least c.requires.most in (s.same, s.ends)
