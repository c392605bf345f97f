use Rattle.std.proofs.Common.{ℤ, ◌+ℤ◌, ◌∙◌, ap, FitsSigned, w64, arith, rules}
use Rattle.std.specs.Int.{w128}
use Rattle.std.proofs.lemmas.Int.{ints, to_z-of_z}
use Rattle.lot_num.specs.Round.{limit}
use Rattle.lot_outline.specs.Polystar.{along_radius}
use Rattle.lot_outline.proofs.polystar.along_radius.Goals as goal

pub returns : goal.returns
unfolding along_radius
returns c =
    let x : FitsSigned w64 c.get.result = search rules in
    let wide_x : FitsSigned w128 c.get.result = search rules in
    let by : FitsSigned w128 c.rounded_product.result = search rules in
    let fits : FitsSigned w128 (c.get.result +ℤ c.rounded_product.result) =
    omega (arith, ints, c.rounded_product.ensures.small, c.get.ensures.range) in
    let value = simp to_z-of_z at c.limited.ensures in
    value
    ∙ ap (λ (z : ℤ). limit (z +ℤ c.rounded_product.result)) c.get.ensures.value
    ∙ ap (λ (z : ℤ). limit (c.args.x +ℤ z)) c.rounded_product.ensures.value
