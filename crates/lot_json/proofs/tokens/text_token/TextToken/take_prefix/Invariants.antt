use Rattle.std.proofs.Common.{◌≤◌, ◌-◌, length, take}
use Rattle.lot_json.specs.TextRest.{TakesRun}
use Rattle.lot_json.proofs.tokens.text_token.TextToken.take_prefix.Given as goal

abbrev pub invariant-loop-at : goal.invariant-loop-at
invariant-loop-at l = record {
  run : TakesRun (take l.at l.bytes) l.initial.self l.self;
  within : l.at ≤ length l.bytes;
}

abbrev pub decreases-loop-at : goal.decreases-loop-at
decreases-loop-at l = length l.bytes - l.at
