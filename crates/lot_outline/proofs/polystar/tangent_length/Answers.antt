use Rattle.std.proofs.Common.{◌∙◌, ◌<◌, ◌*◌, ◌^◌, ◌*ℤ◌, ℤ, pos, ap, FitsSigned, arith, rules}
use Rattle.std.specs.Int.{w128}
use Rattle.std.proofs.lemmas.Int.{ints, to_z-of_z, to_z_pos}
use Rattle.lot_num.specs.Round.{rnd, limit}
use Rattle.lot_outline.specs.Polystar.{tangent_length, quarter_circle}
use Rattle.lot_outline.proofs.polystar.tangent_length.Goals as goal

pub returns : goal.returns
unfolding tangent_length
returns c =
    let result : FitsSigned w128 c.rnd_div.result = search rules in
    let product : FitsSigned w128 c.exact_product-whole.result = search rules in
    let whole : FitsSigned w128 (c.exact_product-whole.result *ℤ pos 1570796) =
    omega (arith, ints, c.exact_product-whole.ensures.small) in
    let limited = simp to_z-of_z at c.limited.ensures in
    let value = simp to_z-of_z at c.rnd_div.ensures.value in
    let parts : c.args.n * 10 ^ 12 < 2 ^ 127 = omega (arith, c.requires.few) in
    limited
    ∙ ap limit (value
    ∙ ap (λ (z : ℤ). rnd (c.exact_product-whole.result *ℤ pos quarter_circle) z)
    (to_z_pos w128 (c.args.n * 10 ^ 12) parts)
    ∙ ap (λ (z : ℤ). rnd (z *ℤ pos quarter_circle) (pos (c.args.n * 10 ^ 12)))
    (c.exact_product-whole.ensures.value ∙ ap (λ (z : ℤ). c.args.radius *ℤ z) c.hundredth.ensures))
