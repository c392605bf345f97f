use Rattle.std.proofs.Common.{false}
use Rattle.lot_json.specs.declared.tokens.number_token.NumberPlace.TheVariants.{Exponent, Power}
use Rattle.lot_json.specs.NumberRest.{RestAt}
use Rattle.lot_json.proofs.NumberMoves.{along}
use Rattle.lot_json.proofs.PlaceMoves.{exponent_plus, exponent_minus, exponent_digits}
use Rattle.lot_json.proofs.tokens.number_token.NumberToken.take_exponent_sign.Goals as goal

pub returns-then-c-eq43 : goal.returns-then-c-eq43
returns-then-c-eq43 c = exponent_plus _ _ c.if-c-eq43.true

pub returns-then-c-eq45 : goal.returns-then-c-eq45
returns-then-c-eq45 c = exponent_minus _ _ c.if-c-eq45.true

pub returns : goal.returns
returns c = along c.take_exponent_digit.result (RestAt (Power false 0) c.args.self.now) (RestAt Exponent c.args.self.now) c.args.c c.args.self.now c.take_exponent_digit.new.self (exponent_digits c.args.c c.args.self.now c.if-c-eq43.false c.if-c-eq45.false) c.take_exponent_digit.ensures
