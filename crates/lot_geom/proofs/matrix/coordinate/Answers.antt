use Rattle.std.proofs.Common.{ℤ, ◌+ℤ◌, ◌∙◌, ap, FitsSigned, w64, arith, rules}
use Rattle.std.specs.Int.{w128}
use Rattle.std.proofs.lemmas.Int.{ints, to_z-of_z}
use Rattle.lot_num.specs.Round.{limit}
use Rattle.lot_geom.specs.Matrix.{sum_of_products}
use Rattle.lot_geom.proofs.matrix.coordinate.Goals as goal

pub returns : goal.returns
returns c =
    let by : FitsSigned w64 c.get.result = search rules in
    let wide_by : FitsSigned w128 c.get.result = search rules in
    let sum : FitsSigned w128 c.sum_of_products.result = search rules in
    let fits : FitsSigned w128 (c.sum_of_products.result +ℤ c.get.result) =
    omega (arith, ints, c.sum_of_products.ensures.small) in
    let value = simp to_z-of_z at c.limited.ensures in
    value
    ∙ ap (λ (z : ℤ). limit (z +ℤ c.get.result)) c.sum_of_products.ensures.value
    ∙ ap (λ (z : ℤ). limit (sum_of_products c.args.x c.args.y c.args.u c.args.v +ℤ z)) c.get.ensures.value
