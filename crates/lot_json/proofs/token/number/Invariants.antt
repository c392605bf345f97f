use Rattle.std.proofs.Common.{◌+◌, ◌↔◌, drop}
use Rattle.lot_json.specs.declared.tree.number.Number.{Number}
use Rattle.lot_json.specs.NumberToken.{IsNumberToken}
use Rattle.lot_json.specs.NumberRest.{NumberRest, HasRoom}
use Rattle.lot_json.proofs.token.number.Given as goal

abbrev pub invariant-loop-c : goal.invariant-loop-c
invariant-loop-c l =
    ((m : Number) → IsNumberToken l.bytes m ↔ NumberRest l.token (drop l.c-index l.rest) m) × HasRoom (l.c-index + 1) l.token
