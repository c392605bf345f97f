use Rattle.std.proofs.Common.{◌≡◌, pos, ◌*ℤ◌, ◌^◌, to_z, FitsSigned, w64, arith, rules}
use Rattle.std.proofs.Math.Nat.{mul-le-mul_right}
use Rattle.std.specs.Int.{w128}
use Rattle.std.proofs.lemmas.Int.{fits_signed_mul, unsigned_abs-mul, to_z-of_z, to_z_pos}
use Rattle.lot_num.proofs.easing.times.Goals as goal

pub returns-clause-small : goal.returns-clause-small
returns-clause-small c =
    let narrow : FitsSigned w64 c.args.x = c.ranges.x in
    let wide : FitsSigned w128 c.args.x = search rules in
    let weight : to_z w128 c.args.weight ≡ pos c.args.weight = to_z_pos w128 c.args.weight (omega arith) in
    let fits : FitsSigned w128 (c.args.x *ℤ pos c.args.weight) =
    fits_signed_mul w128 c.args.x (pos c.args.weight) (10 ^ 8) (2 ^ 64) c.requires (omega arith) (omega arith) in
    simp (to_z-of_z, weight, unsigned_abs-mul) (mul-le-mul_right c.args.weight c.requires)
