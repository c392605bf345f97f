use Rattle.std.proofs.Common.{rules}
use Rattle.lot_json.proofs.PlaceMoves.{exponent_begins}
use Rattle.lot_json.proofs.tokens.number_token.NumberToken.take_exponent_letter.Goals as goal

pub returns-then-c-eq101 : goal.returns-then-c-eq101
returns-then-c-eq101 c = exponent_begins _ _ (search rules)
