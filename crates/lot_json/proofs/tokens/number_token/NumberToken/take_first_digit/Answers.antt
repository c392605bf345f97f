use Rattle.std.proofs.Common.{rules, arith}
use Rattle.lot_json.specs.NumberToken.{IsDigit}
use Rattle.lot_json.proofs.WholeMoves.{start_zero, start_other}
use Rattle.lot_json.proofs.tokens.number_token.NumberToken.take_first_digit.Goals as goal

pub returns-then-c-eq48 : goal.returns-then-c-eq48
returns-then-c-eq48 c = start_zero _ _ c.count_whole.new.self c.if-c-eq48.true c.count_whole.ensures

pub returns : goal.returns
returns c = let d : IsDigit c.args.c = search rules in start_other _ _ c.count_whole.new.self (omega (arith, d.0)) d.1 c.count_whole.ensures
