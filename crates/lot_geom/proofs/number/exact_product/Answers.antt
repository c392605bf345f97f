use Rattle.std.proofs.Common.{◌≤◌, ◌*ℤ◌, ◌^◌, ◌∙◌, ℤ, unsigned_abs, ap, FitsSigned, w64, arith, rules}
use Rattle.std.specs.Int.{w128}
use Rattle.std.proofs.lemmas.Int.{fits_signed_mul, to_z-of_z}
use Rattle.lot_geom.proofs.Products.{product_small}
use Rattle.lot_geom.proofs.number.exact_product.Goals as goal

-- The product of two numbers in range fits.
fits : (x y : ℤ) → unsigned_abs x ≤ 10 ^ 13 → unsigned_abs y ≤ 10 ^ 13 → FitsSigned w128 (x *ℤ y)
fits x y p q = fits_signed_mul w128 x y (10 ^ 13) (10 ^ 13) p q (omega arith)

pub overflow_mul-result : goal.overflow_mul-result
overflow_mul-result c =
    let x : FitsSigned w64 c.get.result = search rules in
    let y : FitsSigned w64 c.get-2.result = search rules in
    let wide_x : FitsSigned w128 c.get.result = search rules in
    let wide_y : FitsSigned w128 c.get-2.result = search rules in
    simp to_z-of_z (fits c.get.result c.get-2.result c.get.ensures.range c.get-2.ensures.range)

pub returns-clause-value : goal.returns-clause-value
returns-clause-value c =
    let x : FitsSigned w64 c.get.result = search rules in
    let y : FitsSigned w64 c.get-2.result = search rules in
    let wide_x : FitsSigned w128 c.get.result = search rules in
    let wide_y : FitsSigned w128 c.get-2.result = search rules in
    let product = fits c.get.result c.get-2.result c.get.ensures.range c.get-2.ensures.range in
    simp to_z-of_z (ap (λ z. z *ℤ c.get-2.result) c.get.ensures.value ∙ ap (λ z. c.args.x *ℤ z) c.get-2.ensures.value)

pub returns-clause-small : goal.returns-clause-small
returns-clause-small c =
    let x : FitsSigned w64 c.get.result = search rules in
    let y : FitsSigned w64 c.get-2.result = search rules in
    let wide_x : FitsSigned w128 c.get.result = search rules in
    let wide_y : FitsSigned w128 c.get-2.result = search rules in
    let product = fits c.get.result c.get-2.result c.get.ensures.range c.get-2.ensures.range in
    simp to_z-of_z (product_small c.get.result c.get-2.result (10 ^ 13) (10 ^ 13) c.get.ensures.range c.get-2.ensures.range)
