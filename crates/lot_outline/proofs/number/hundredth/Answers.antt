use Rattle.std.proofs.Common.{◌≤◌, ℤ, pos, unsigned_abs, ◌∙◌, ap, FitsSigned, w64, arith, rules}
use Rattle.std.specs.Int.{w128}
use Rattle.std.proofs.lemmas.Int.{to_z-of_z}
use Rattle.lot_num.specs.Round.{rnd, max_millionths}
use Rattle.lot_geom.proofs.Limits.{limit_of_small}
use Rattle.lot_outline.proofs.number.hundredth.Goals as goal

pub returns : goal.returns
returns c =
    let x : FitsSigned w64 c.get.result = search rules in
    let wide : FitsSigned w128 c.get.result = search rules in
    let result : FitsSigned w128 c.rnd_div.result = search rules in
    let below = simp to_z-of_z at c.rnd_div.ensures.small in
    let small : unsigned_abs c.rnd_div.result ≤ max_millionths = omega (arith, below, c.get.ensures.range) in
    let value = simp to_z-of_z at c.rnd_div.ensures.value in
    let limited = simp to_z-of_z at c.limited.ensures in
    limited ∙ limit_of_small c.rnd_div.result small ∙ value ∙ ap (λ (z : ℤ). rnd z (pos 100)) c.get.ensures.value
