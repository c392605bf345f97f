-- A number limited to the range is in it.
use Rattle.std.proofs.Common.{ℤ, unsigned_abs, ◌≤◌, arith}
use Rattle.std.proofs.lemmas.Int.{ints}
use Rattle.lot_num.specs.Round.{limit, max_millionths}

pub limit_small : (x : ℤ) → unsigned_abs (limit x) ≤ max_millionths
limit_small x = grind (arith, ints)
