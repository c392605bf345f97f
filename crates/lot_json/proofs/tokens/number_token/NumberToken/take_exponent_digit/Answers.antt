use Rattle.std.proofs.Common.{rules, ◌<◌, ◌^◌, arith}
use Rattle.lot_json.specs.NumberToken.{IsDigit}
use Rattle.lot_json.proofs.PlaceMoves.{power_digit}
use Rattle.lot_json.proofs.tokens.number_token.NumberToken.take_exponent_digit.Goals as goal

pub returns : goal.returns
returns c = let d : IsDigit c.args.c = search rules in let small : c.args.self.now.lead < 2 ^ 64 = search rules in power_digit c.args.c c.args.power _ c.args.minus _ c.requires small d (omega arith)
