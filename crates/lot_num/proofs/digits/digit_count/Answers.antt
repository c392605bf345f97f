use Rattle.std.proofs.Common.{◌≡◌, ℕ, ◌+◌, ◌/◌, ◌^◌, ◌<◌, ◌≤◌, length, ap, ◌∙◌, arith}
use Rattle.std.specs.Fmt.{decimal}
use Rattle.std.proofs.lemmas.Fmt.{decimal_digit, decimal_step, length-decimal-le}
use Rattle.std.proofs.lemmas.List.{length_push}
use Rattle.lot_num.proofs.digits.digit_count.Goals as goal

length-decimal_step : (n : ℕ) → 10 ≤ n → n < 2 ^ 64 → length (decimal n) ≡ length (decimal (n / 10)) + 1
length-decimal_step n many fits = ap length (decimal_step n many fits) ∙ length_push _ _

pub overflow_add-count : goal.overflow_add-count
overflow_add-count c = omega (arith, length-decimal-le 20 c.args.n (omega arith) (omega arith) (omega arith))

pub loop-rest-preserved : goal.loop-rest-preserved
loop-rest-preserved c = omega (arith, length-decimal_step c.loop-rest.rest c.loop-rest-test.true (omega arith), c.loop-rest.invariant)

pub returns : goal.returns
returns c = omega (arith, ap length (decimal_digit c.loop-rest.rest c.loop-rest-test.false), c.loop-rest.invariant)
