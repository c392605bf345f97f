use Rattle.lot_json.proofs.CharacterMoves.{three_bytes}
use Rattle.lot_json.proofs.tokens.byte_sequence.ByteSequence.begin_three.Goals as goal

pub returns : goal.returns
returns c =
    let s = three_bytes c.args.c c.from.result c.second_least.result c.second_most.result c.second_least.ensures c.second_most.ensures c.from.ensures c.requires.least c.requires.most in
    (s.same, s.ends)
