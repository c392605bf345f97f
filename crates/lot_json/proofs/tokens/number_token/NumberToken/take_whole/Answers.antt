use Rattle.std.proofs.Common.{rules}
use Rattle.lot_json.specs.declared.tokens.number_token.NumberPlace.TheVariants.{Zero, Whole}
use Rattle.lot_json.specs.NumberToken.{IsDigit}
use Rattle.lot_json.specs.NumberRest.{RestAt}
use Rattle.lot_json.proofs.NumberMoves.{along}
use Rattle.lot_json.proofs.WholeMoves.{whole_digit, whole_ends}
use Rattle.lot_json.proofs.tokens.number_token.NumberToken.take_whole.Goals as goal

pub returns-then-is_digit : goal.returns-then-is_digit
returns-then-is_digit c = let d : IsDigit c.args.c = search rules in whole_digit _ _ c.count_whole.new.self d c.count_whole.ensures

pub returns : goal.returns
returns c = let d : IsDigit c.args.c → ⊥ = search rules in along c.take_after_whole.result (RestAt Zero c.args.self.now) (RestAt Whole c.args.self.now) c.args.c c.args.self.now c.take_after_whole.new.self (whole_ends c.args.c c.args.self.now d) c.take_after_whole.ensures
