use Rattle.std.proofs.Common.{rules}
use Rattle.lot_json.specs.NumberToken.{IsDigit}
use Rattle.lot_json.proofs.PlaceMoves.{point_digit}
use Rattle.lot_json.proofs.tokens.number_token.NumberToken.take_first_decimal.Goals as goal

pub returns : goal.returns
returns c = let d : IsDigit c.args.c = search rules in point_digit _ _ c.count_decimal.new.self d c.count_decimal.ensures
