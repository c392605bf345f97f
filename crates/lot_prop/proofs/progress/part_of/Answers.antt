use Rattle.std.proofs.Common.{ℤ, unsigned_abs, ◌*ℤ◌, ◌*◌, ◌^◌, ◌≤◌, FitsSigned, w64, arith, rules}
use Rattle.std.proofs.Math.Nat.{mul-le-mul}
use Rattle.std.specs.Int.{w128}
use Rattle.std.proofs.lemmas.Int.{fits_signed_mul, unsigned_abs-mul, to_z-of_z}
use Rattle.lot_prop.proofs.progress.part_of.Goals as goal

product_small : (change num : ℤ) → unsigned_abs change ≤ 2 * 10 ^ 13 → unsigned_abs num ≤ 2 * 10 ^ 13 → unsigned_abs (change *ℤ num) ≤ 4 * 10 ^ 26
product_small change num small part = omega (arith, unsigned_abs-mul change num, mul-le-mul small part)

product_fits : (change num : ℤ) → unsigned_abs change ≤ 2 * 10 ^ 13 → unsigned_abs num ≤ 2 * 10 ^ 13 → FitsSigned w128 (change *ℤ num)
product_fits change num small part = fits_signed_mul w128 change num (2 * 10 ^ 13) (2 * 10 ^ 13) small part (omega arith)

pub overflow_mul-change : goal.overflow_mul-change
overflow_mul-change c =
    let change : FitsSigned w64 c.args.change = c.ranges.change in
    let num : FitsSigned w64 c.args.num = c.ranges.num in
    let wide_change : FitsSigned w128 c.args.change = search rules in
    let wide_num : FitsSigned w128 c.args.num = search rules in
    simp to_z-of_z (product_fits c.args.change c.args.num c.requires.change c.requires.num)

pub rnd_div-requires-clause-x_small : goal.rnd_div-requires-clause-x_small
rnd_div-requires-clause-x_small c =
    let change : FitsSigned w64 c.args.change = c.ranges.change in
    let num : FitsSigned w64 c.args.num = c.ranges.num in
    let wide_change : FitsSigned w128 c.args.change = search rules in
    let wide_num : FitsSigned w128 c.args.num = search rules in
    let fits = product_fits c.args.change c.args.num c.requires.change c.requires.num in
    let small = product_small c.args.change c.args.num c.requires.change c.requires.num in
    simp to_z-of_z (omega (arith, small))

pub returns-clause-value : goal.returns-clause-value
returns-clause-value c =
    let change : FitsSigned w64 c.args.change = c.ranges.change in
    let num : FitsSigned w64 c.args.num = c.ranges.num in
    let den : FitsSigned w64 c.args.den = c.ranges.den in
    let wide_change : FitsSigned w128 c.args.change = search rules in
    let wide_num : FitsSigned w128 c.args.num = search rules in
    let wide_den : FitsSigned w128 c.args.den = search rules in
    let result : FitsSigned w128 c.rnd_div.result = search rules in
    let fits = product_fits c.args.change c.args.num c.requires.change c.requires.num in
    let value = simp to_z-of_z at c.rnd_div.ensures.value in
    simp to_z-of_z value

pub returns-clause-small : goal.returns-clause-small
returns-clause-small c =
    let change : FitsSigned w64 c.args.change = c.ranges.change in
    let num : FitsSigned w64 c.args.num = c.ranges.num in
    let wide_change : FitsSigned w128 c.args.change = search rules in
    let wide_num : FitsSigned w128 c.args.num = search rules in
    let result : FitsSigned w128 c.rnd_div.result = search rules in
    let fits = product_fits c.args.change c.args.num c.requires.change c.requires.num in
    let small = product_small c.args.change c.args.num c.requires.change c.requires.num in
    let below = simp to_z-of_z at c.rnd_div.ensures.small in
    simp to_z-of_z (omega (arith, below, small))
