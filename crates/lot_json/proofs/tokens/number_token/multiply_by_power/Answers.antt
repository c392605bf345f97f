use Rattle.std.proofs.Common.{arith}
use Rattle.lot_json.proofs.CompletedNumbers.{raised_beyond}
use Rattle.lot_json.proofs.tokens.number_token.multiply_by_power.Goals as goal

pub returns-then-by-gt13 : goal.returns-then-by-gt13
returns-then-by-gt13 c = λ minus. raised_beyond minus _ _ (omega arith) (omega arith)
