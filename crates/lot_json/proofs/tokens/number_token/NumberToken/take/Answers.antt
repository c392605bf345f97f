use Rattle.std.proofs.Common.{◌∷◌}
use Rattle.lot_json.specs.declared.tokens.number_token.NumberPlace.TheVariants.{Start, Zero, Whole, Point, Fraction, Exponent, Sign, Power}
use Rattle.lot_json.specs.NumberRest.{NumberRest, RestAt}
use Rattle.lot_json.proofs.NumberMoves.{along, at_place}
use Rattle.lot_json.proofs.tokens.number_token.NumberToken.take.Goals as goal

pub returns-in-Start : goal.returns-in-Start
unfolding NumberRest
returns-in-Start c = let here = at_place Start c.args.self.now c.in-Start.is in along c.take_first_digit.result (RestAt Start c.args.self.now) (NumberRest c.args.self.now) c.args.c c.args.self.now c.take_first_digit.new.self (λ t m. here (c.args.c ∷ t) m) c.take_first_digit.ensures

pub returns-in-Zero : goal.returns-in-Zero
unfolding NumberRest
returns-in-Zero c = let here = at_place Zero c.args.self.now c.in-Zero.is in along c.take_after_whole.result (RestAt Zero c.args.self.now) (NumberRest c.args.self.now) c.args.c c.args.self.now c.take_after_whole.new.self (λ t m. here (c.args.c ∷ t) m) c.take_after_whole.ensures

pub returns-in-Whole : goal.returns-in-Whole
unfolding NumberRest
returns-in-Whole c = let here = at_place Whole c.args.self.now c.in-Whole.is in along c.take_whole.result (RestAt Whole c.args.self.now) (NumberRest c.args.self.now) c.args.c c.args.self.now c.take_whole.new.self (λ t m. here (c.args.c ∷ t) m) c.take_whole.ensures

pub returns-in-Point : goal.returns-in-Point
unfolding NumberRest
returns-in-Point c = let here = at_place Point c.args.self.now c.in-Point.is in along c.take_first_decimal.result (RestAt Point c.args.self.now) (NumberRest c.args.self.now) c.args.c c.args.self.now c.take_first_decimal.new.self (λ t m. here (c.args.c ∷ t) m) c.take_first_decimal.ensures

pub returns-in-Fraction : goal.returns-in-Fraction
unfolding NumberRest
returns-in-Fraction c = let here = at_place Fraction c.args.self.now c.in-Fraction.is in along c.take_decimal.result (RestAt Fraction c.args.self.now) (NumberRest c.args.self.now) c.args.c c.args.self.now c.take_decimal.new.self (λ t m. here (c.args.c ∷ t) m) c.take_decimal.ensures

pub returns-in-Exponent : goal.returns-in-Exponent
unfolding NumberRest
returns-in-Exponent c = let here = at_place Exponent c.args.self.now c.in-Exponent.is in along c.take_exponent_sign.result (RestAt Exponent c.args.self.now) (NumberRest c.args.self.now) c.args.c c.args.self.now c.take_exponent_sign.new.self (λ t m. here (c.args.c ∷ t) m) c.take_exponent_sign.ensures

pub returns-in-Sign : goal.returns-in-Sign
unfolding NumberRest
returns-in-Sign c = let here = at_place (Sign c.in-Sign.minus) c.args.self.now c.in-Sign.is in along c.take_exponent_digit.result (RestAt (Power c.in-Sign.minus 0) c.args.self.now) (NumberRest c.args.self.now) c.args.c c.args.self.now c.take_exponent_digit.new.self (λ t m. here (c.args.c ∷ t) m) c.take_exponent_digit.ensures

pub returns-in-Power : goal.returns-in-Power
unfolding NumberRest
returns-in-Power c = let here = at_place (Power c.in-Power.minus c.in-Power.power) c.args.self.now c.in-Power.is in along c.take_exponent_digit-in-Power.result (RestAt (Power c.in-Power.minus c.in-Power.power) c.args.self.now) (NumberRest c.args.self.now) c.args.c c.args.self.now c.take_exponent_digit-in-Power.new.self (λ t m. here (c.args.c ∷ t) m) c.take_exponent_digit-in-Power.ensures
