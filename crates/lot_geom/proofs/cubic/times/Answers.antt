use Rattle.std.proofs.Common.{◌≡◌, ◌≤◌, ◌*ℤ◌, ◌^◌, ℕ, ℤ, pos, to_z, unsigned_abs, ap, FitsSigned, w64, arith, rules}
use Rattle.std.specs.Int.{w128}
use Rattle.std.proofs.lemmas.Int.{fits_signed_mul, to_z-of_z, to_z_pos}
use Rattle.lot_geom.proofs.Products.{product_small}
use Rattle.lot_geom.proofs.cubic.times.Goals as goal

-- The product of a number in range and a weight fits.
fits : (x : ℤ) (weight : ℕ) → unsigned_abs x ≤ 10 ^ 13 → weight ≤ 2 ^ 50 → FitsSigned w128 (x *ℤ pos weight)
fits x weight p q = fits_signed_mul w128 x (pos weight) (10 ^ 13) (2 ^ 50) p q (omega arith)

pub overflow_mul-result : goal.overflow_mul-result
overflow_mul-result c =
    let x : FitsSigned w64 c.get.result = search rules in
    let wide : FitsSigned w128 c.get.result = search rules in
    let weight : to_z w128 c.args.weight ≡ pos c.args.weight = to_z_pos w128 c.args.weight (omega (arith, c.requires)) in
    simp (to_z-of_z, weight) (fits c.get.result c.args.weight c.get.ensures.range c.requires)

pub returns-clause-value : goal.returns-clause-value
returns-clause-value c =
    let x : FitsSigned w64 c.get.result = search rules in
    let wide : FitsSigned w128 c.get.result = search rules in
    let weight : to_z w128 c.args.weight ≡ pos c.args.weight = to_z_pos w128 c.args.weight (omega (arith, c.requires)) in
    let product = fits c.get.result c.args.weight c.get.ensures.range c.requires in
    simp (to_z-of_z, weight) (ap (λ z. z *ℤ pos c.args.weight) c.get.ensures.value)

pub returns-clause-small : goal.returns-clause-small
returns-clause-small c =
    let x : FitsSigned w64 c.get.result = search rules in
    let wide : FitsSigned w128 c.get.result = search rules in
    let weight : to_z w128 c.args.weight ≡ pos c.args.weight = to_z_pos w128 c.args.weight (omega (arith, c.requires)) in
    let product = fits c.get.result c.args.weight c.get.ensures.range c.requires in
    simp (to_z-of_z, weight) (product_small c.get.result (pos c.args.weight) (10 ^ 13) (2 ^ 50) c.get.ensures.range c.requires)
