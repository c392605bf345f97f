use Rattle.std.proofs.Common.{take}
use Rattle.lot_json.specs.Unescaped.{AreUnescapedBytes}
use Rattle.lot_json.proofs.tokens.unescaped.unescaped_len.Given as goal

abbrev pub invariant-loop-index : goal.invariant-loop-index
invariant-loop-index l = AreUnescapedBytes (take l.index l.bytes)
