use Rattle.std.proofs.Common.{◌*ℤ◌, ◌^◌, ◌∙◌, ap, FitsSigned, w64, arith, rules}
use Rattle.std.specs.Int.{w128}
use Rattle.std.proofs.lemmas.Int.{ints, fits_signed_mul, to_z-of_z}
use Rattle.lot_num.specs.Round.{limit}
use Rattle.lot_num.proofs.round.mul_fx.Goals as goal

pub returns : goal.returns
returns c =
    let a : FitsSigned w64 c.args.a = c.ranges.a in
    let b : FitsSigned w64 c.args.b = c.ranges.b in
    let wide_a : FitsSigned w128 c.args.a = search rules in
    let wide_b : FitsSigned w128 c.args.b = search rules in
    let fits : FitsSigned w128 (c.args.a *ℤ c.args.b) =
    fits_signed_mul w128 c.args.a c.args.b (2 ^ 63) (2 ^ 63) (omega (arith, ints)) (omega (arith, ints)) (omega arith) in
    let quotient : FitsSigned w128 c.rounded.result = search rules in
    let result : FitsSigned w64 c.clamp_fx.result = search rules in
    let rounded = simp to_z-of_z at c.rounded.ensures.value in
    let value = simp to_z-of_z at c.clamp_fx.ensures in
    simp to_z-of_z (value ∙ ap limit rounded)
