use Rattle.std.proofs.Common.{arith}
use Rattle.lot_json.proofs.CharacterMoves.{high_unit}
use Rattle.lot_json.proofs.CharacterEnds.{ends_high}
use Rattle.lot_json.proofs.tokens.code_unit.CodeUnit.end.Goals as goal

pub returns-in-55296-to-56319 : goal.returns-in-55296-to-56319
returns-in-55296-to-56319 c = (high_unit c.args.unit (omega arith), ends_high c.args.unit)
