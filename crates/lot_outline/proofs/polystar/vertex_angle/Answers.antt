use Rattle.std.proofs.Common.{ℤ, pos, ◌+ℤ◌, ◌-ℤ◌, ◌∙◌, ap, FitsSigned, w64, arith, rules}
use Rattle.std.specs.Int.{w128}
use Rattle.std.proofs.lemmas.Int.{ints, to_z-of_z}
use Rattle.lot_num.specs.Round.{limit}
use Rattle.lot_outline.specs.Polystar.{vertex_angle}
use Rattle.lot_outline.proofs.polystar.vertex_angle.Goals as goal

pub returns : goal.returns
unfolding vertex_angle
returns c =
    let r : FitsSigned w64 c.get.result = search rules in
    let wide_r : FitsSigned w128 c.get.result = search rules in
    let turn : FitsSigned w128 c.turn_to.result = search rules in
    let from_top : FitsSigned w128 (c.get.result -ℤ pos 90000000) = omega (arith, ints, c.get.ensures.range) in
    let fits : FitsSigned w128 (c.get.result -ℤ pos 90000000 +ℤ c.turn_to.result) =
    omega (arith, ints, c.turn_to.ensures.small, c.get.ensures.range) in
    let value = simp to_z-of_z at c.limited.ensures in
    value
    ∙ ap (λ (z : ℤ). limit (z -ℤ pos 90000000 +ℤ c.turn_to.result)) c.get.ensures.value
    ∙ ap (λ (z : ℤ). limit (c.args.rotation -ℤ pos 90000000 +ℤ z)) c.turn_to.ensures.value
