use Rattle.lot_json.specs.declared.tokens.number_token.NumberPlace.TheVariants.{Zero}
use Rattle.lot_json.specs.NumberRest.{RestAt, ExponentRest}
use Rattle.lot_json.proofs.NumberMoves.{along}
use Rattle.lot_json.proofs.WholeMoves.{zero_point, zero_ends}
use Rattle.lot_json.proofs.tokens.number_token.NumberToken.take_after_whole.Goals as goal

pub returns-then-c-eq46 : goal.returns-then-c-eq46
returns-then-c-eq46 c = zero_point _ _ c.if-c-eq46.true

pub returns : goal.returns
returns c = along c.take_exponent_letter.result (ExponentRest c.args.self.now) (RestAt Zero c.args.self.now) c.args.c c.args.self.now c.take_exponent_letter.new.self (zero_ends c.args.c c.args.self.now c.if-c-eq46.false) c.take_exponent_letter.ensures
