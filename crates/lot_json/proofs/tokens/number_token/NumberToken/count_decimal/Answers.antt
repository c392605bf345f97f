use Rattle.std.proofs.Common.{rules, ◌≤◌, ◌+◌, ◌*◌, ◌^◌, ℕ, ap}
use Rattle.lot_json.specs.NumberRest.{HasRoom}
use Rattle.lot_json.proofs.CompletedNumbers.{keeps_decimal, drops_decimal}
use Rattle.lot_json.proofs.tokens.number_token.NumberToken.count_decimal.Goals as goal

pub overflow_add-self-then-self-lt-MIN_FULL_LEAD : goal.overflow_add-self-then-self-lt-MIN_FULL_LEAD
unfolding HasRoom
overflow_add-self-then-self-lt-MIN_FULL_LEAD c = let h : c.args.self.now.dropped + c.args.self.now.places ≤ 2 ^ 63 = c.requires.room in search rules

pub returns-then-self-lt-MIN_FULL_LEAD : goal.returns-then-self-lt-MIN_FULL_LEAD
returns-then-self-lt-MIN_FULL_LEAD c = keeps_decimal _ _ _ (ap (λ (z : ℕ). 10 * c.args.self.now.lead + z) c.from.ensures)

pub returns-else-self-lt-MIN_FULL_LEAD : goal.returns-else-self-lt-MIN_FULL_LEAD
returns-else-self-lt-MIN_FULL_LEAD c = drops_decimal _ _ c.if-self-lt-MIN_FULL_LEAD.false c.requires.digit
