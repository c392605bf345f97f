use Rattle.std.proofs.Common.{◌+ℤ◌, FitsSigned, arith, rules}
use Rattle.std.specs.Int.{w128}
use Rattle.std.proofs.lemmas.Int.{ints, to_z-of_z}
use Rattle.lot_geom.proofs.Sums.{sum_is}
use Rattle.lot_geom.proofs.matrix.sum_of_products.Goals as goal

pub returns-clause-value : goal.returns-clause-value
returns-clause-value c =
    let first : FitsSigned w128 c.exact_product.result = search rules in
    let second : FitsSigned w128 c.exact_product-2.result = search rules in
    let sum : FitsSigned w128 (c.exact_product.result +ℤ c.exact_product-2.result) =
    omega (arith, ints, c.exact_product.ensures.small, c.exact_product-2.ensures.small) in
    let result : FitsSigned w128 c.rnd_div.result = search rules in
    let value = simp to_z-of_z at c.rnd_div.ensures.value in
    simp to_z-of_z (sum_is c.rnd_div.result c.exact_product.result c.exact_product-2.result c.args.x c.args.y c.args.u c.args.v
    value c.exact_product.ensures.value c.exact_product-2.ensures.value)

pub returns-clause-small : goal.returns-clause-small
returns-clause-small c =
    let first : FitsSigned w128 c.exact_product.result = search rules in
    let second : FitsSigned w128 c.exact_product-2.result = search rules in
    let sum : FitsSigned w128 (c.exact_product.result +ℤ c.exact_product-2.result) =
    omega (arith, ints, c.exact_product.ensures.small, c.exact_product-2.ensures.small) in
    let result : FitsSigned w128 c.rnd_div.result = search rules in
    let below = simp to_z-of_z at c.rnd_div.ensures.small in
    simp to_z-of_z (omega (arith, ints, below, c.exact_product.ensures.small, c.exact_product-2.ensures.small))
