-- A number in range is not limited.
use Rattle.std.proofs.Common.{◌≡◌, ℤ, ◌≤◌, unsigned_abs, arith}
use Rattle.std.proofs.lemmas.Int.{ints}
use Rattle.lot_num.specs.Round.{limit, max_millionths}

pub limit_of_small : (x : ℤ) → unsigned_abs x ≤ max_millionths → limit x ≡ x
limit_of_small x h = grind (arith, ints)
