use Rattle.std.proofs.Common.{ℕ, ◌*◌, ◌^◌, ◌≤◌, arith}
use Rattle.std.proofs.Math.Nat.{mul-le-mul}
use Rattle.std.proofs.lemmas.Int.{ints}
use Rattle.lot_geom.proofs.chord.square_between.Goals as goal

square_small : (n : ℕ) → n ≤ 2 * 10 ^ 13 → n * n ≤ 4 * 10 ^ 26
square_small n h = omega (arith, mul-le-mul h h)

pub returns-clause-small : goal.returns-clause-small
returns-clause-small c =
    square_small c.unsigned_abs-size.result
    (omega (
      arith,
      ints,
      c.unsigned_abs-size.ensures.value,
      c.get.ensures.value,
      c.get.ensures.range,
      c.get-2.ensures.value,
      c.get-2.ensures.range,
    ))
