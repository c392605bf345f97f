use Rattle.std.proofs.Common.{◌≡◌, ℕ, ◌/◌, ◌^◌, ◌≤◌, length, take, ap, arith, rules}
use Rattle.std.proofs.Math.Nat.{div-le_self}
use Rattle.std.proofs.lemmas.Fmt.{length-decimal-le}
use Rattle.std.proofs.lemmas.Int.{ints}
use Rattle.std.proofs.lemmas.List.{length-take}
use Rattle.std.specs.Fmt.{decimal}
use Rattle.lot_num.specs.Digits.{printed}
use Rattle.lot_num.proofs.digits.print_fx.Goals as goal

whole_short : (size unit : ℕ) → size ≤ 10 ^ 13 → length (decimal (size / unit)) ≤ 14
whole_short size unit h = length-decimal-le 14 (size / unit) (omega arith) (omega (arith, div-le_self size unit)) (omega (arith, div-le_self size unit))

pub put_whole-at-requires : goal.put_whole-at-requires
put_whole-at-requires c = omega (arith, whole_short c.unsigned_abs-size.result c.ten_to-unit.result (omega (arith, ints)))

pub put_decimals-requires : goal.put_decimals-requires
put_decimals-requires c = omega (arith, whole_short c.unsigned_abs-size.result c.ten_to-unit.result (omega (arith, ints)))

pub returns-clause-length : goal.returns-clause-length
returns-clause-length c =
    let text : take c.put_decimals.result c.put_decimals.new.out ≡ printed c.args.v c.args.digits = search rules in
    omega (arith, ap length text, length-take c.put_decimals.result c.put_decimals.new.out)
