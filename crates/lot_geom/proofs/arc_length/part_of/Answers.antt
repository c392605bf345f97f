use Rattle.std.proofs.Common.{ℤ, unsigned_abs, ◌*ℤ◌, ◌*◌, ◌^◌, ◌≤◌, FitsSigned, w64, arith, rules}
use Rattle.std.proofs.Math.Nat.{mul-le-mul}
use Rattle.std.specs.Int.{w128}
use Rattle.std.proofs.lemmas.Int.{ints, fits_signed_mul, unsigned_abs-mul, to_z-of_z}
use Rattle.lot_geom.specs.Along.{IsPassed}
use Rattle.lot_geom.proofs.arc_length.part_of.Goals as goal

passed_small : (passed whole : ℤ) → IsPassed passed whole → unsigned_abs passed ≤ 3 * 10 ^ 19
passed_small passed whole part = omega (arith, ints, part.from, part.to, part.short)

product_small : (change passed whole : ℤ) → unsigned_abs change ≤ 2 * 10 ^ 13 → IsPassed passed whole
    → unsigned_abs (change *ℤ passed) ≤ 6 * 10 ^ 32
product_small change passed whole small part =
    omega (arith, unsigned_abs-mul change passed, mul-le-mul small (passed_small passed whole part))

product_fits : (change passed whole : ℤ) → unsigned_abs change ≤ 2 * 10 ^ 13 → IsPassed passed whole
    → FitsSigned w128 (change *ℤ passed)
product_fits change passed whole small part =
    fits_signed_mul w128 change passed (2 * 10 ^ 13) (3 * 10 ^ 19) small (passed_small passed whole part) (omega arith)

pub overflow_mul-change : goal.overflow_mul-change
overflow_mul-change c =
    let change : FitsSigned w64 c.args.change = c.ranges.change in
    let wide_change : FitsSigned w128 c.args.change = search rules in
    let passed : FitsSigned w128 c.args.passed = c.ranges.passed in
    simp to_z-of_z (product_fits c.args.change c.args.passed c.args.whole c.requires.change c.requires.part)

pub rnd_div-requires-clause-x_small : goal.rnd_div-requires-clause-x_small
rnd_div-requires-clause-x_small c =
    let change : FitsSigned w64 c.args.change = c.ranges.change in
    let wide_change : FitsSigned w128 c.args.change = search rules in
    let passed : FitsSigned w128 c.args.passed = c.ranges.passed in
    let fits = product_fits c.args.change c.args.passed c.args.whole c.requires.change c.requires.part in
    let small = product_small c.args.change c.args.passed c.args.whole c.requires.change c.requires.part in
    simp to_z-of_z (omega (arith, small))

pub returns-clause-value : goal.returns-clause-value
returns-clause-value c =
    let change : FitsSigned w64 c.args.change = c.ranges.change in
    let wide_change : FitsSigned w128 c.args.change = search rules in
    let passed : FitsSigned w128 c.args.passed = c.ranges.passed in
    let whole : FitsSigned w128 c.args.whole = c.ranges.whole in
    let result : FitsSigned w128 c.rnd_div.result = search rules in
    let fits = product_fits c.args.change c.args.passed c.args.whole c.requires.change c.requires.part in
    let value = simp to_z-of_z at c.rnd_div.ensures.value in
    simp to_z-of_z value

pub returns-clause-small : goal.returns-clause-small
returns-clause-small c =
    let change : FitsSigned w64 c.args.change = c.ranges.change in
    let wide_change : FitsSigned w128 c.args.change = search rules in
    let passed : FitsSigned w128 c.args.passed = c.ranges.passed in
    let result : FitsSigned w128 c.rnd_div.result = search rules in
    let fits = product_fits c.args.change c.args.passed c.args.whole c.requires.change c.requires.part in
    let small = product_small c.args.change c.args.passed c.args.whole c.requires.change c.requires.part in
    let below = simp to_z-of_z at c.rnd_div.ensures.small in
    simp to_z-of_z (omega (arith, below, small))
