use Rattle.std.proofs.Common.{rules}
use Rattle.lot_json.specs.declared.tokens.number_token.NumberPlace.TheVariants.{Fraction}
use Rattle.lot_json.specs.NumberToken.{IsDigit}
use Rattle.lot_json.specs.NumberRest.{RestAt, ExponentRest}
use Rattle.lot_json.proofs.NumberMoves.{along}
use Rattle.lot_json.proofs.PlaceMoves.{fraction_digit, fraction_ends}
use Rattle.lot_json.proofs.tokens.number_token.NumberToken.take_decimal.Goals as goal

pub returns-then-is_digit : goal.returns-then-is_digit
returns-then-is_digit c = let d : IsDigit c.args.c = search rules in fraction_digit _ _ c.count_decimal.new.self d c.count_decimal.ensures

pub returns : goal.returns
returns c = let d : IsDigit c.args.c → ⊥ = search rules in along c.take_exponent_letter.result (ExponentRest c.args.self.now) (RestAt Fraction c.args.self.now) c.args.c c.args.self.now c.take_exponent_letter.new.self (fraction_ends c.args.c c.args.self.now d) c.take_exponent_letter.ensures
