use Rattle.std.proofs.Common.{◌≡◌, ℕ, ◌+◌, ◌-◌, map, reverse, take, Some, ap, ◌∙◌, arith}
use Rattle.lot_geom.specs.Matrix.{matrix_product}
use Rattle.lot_group.specs.Product.{map_product_from}
use Rattle.lot_group.proofs.Identity.{one_factor}
use Rattle.lot_group.proofs.Steps.{product_more}
use Rattle.lot_group.proofs.product.product_from_last.Goals as goal

pub loop-i-preserved : goal.loop-i-preserved
loop-i-preserved c =
    let p = c.loop-i.product in
    let xs = c.args.factors.now in
    let e : c.loop-i.i - 1 + 1 ≡ c.loop-i.i = omega (arith, c.loop-i-test.true) in
    record {
      within = omega (arith, c.loop-i.invariant.within);
      product =
          product_more p c.then-product.result c.index-factors-i.result xs (c.loop-i.i - 1)
          (omega (arith, c.loop-i.invariant.within, c.loop-i-test.true))
          (c.then-product.ensures ∙ ap (matrix_product p) c.index-factors-i.is) ∙
          (ap (λ (z : ℕ). map_product_from (Some p) (map Some (reverse (take z xs)))) e ∙ c.loop-i.invariant.product);
    }

pub returns-clause-one : goal.returns-clause-one
returns-clause-one c = one_factor
