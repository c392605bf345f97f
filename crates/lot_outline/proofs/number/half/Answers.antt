use Rattle.std.proofs.Common.{◌∙◌, ◌<◌, ◌^◌, ℤ, pos, unsigned_abs, ap, FitsSigned, w64, arith, rules}
use Rattle.std.specs.Int.{w128}
use Rattle.std.proofs.lemmas.Int.{to_z-of_z, to_z_pos}
use Rattle.lot_num.specs.Round.{rnd, limit}
use Rattle.lot_outline.specs.Number.{half}
use Rattle.lot_outline.proofs.number.half.Goals as goal

pub returns : goal.returns
unfolding half
returns c =
    let got : FitsSigned w64 c.get.result = search rules in
    let result : FitsSigned w128 c.rnd_div.result = search rules in
    let limited = simp to_z-of_z at c.limited.ensures in
    let size = simp to_z-of_z at c.unsigned_abs.ensures.value in
    let short : c.unsigned_abs.result < 2 ^ 127 = omega (arith, c.unsigned_abs.type_inv) in
    limited
    ∙ ap limit (c.rnd_div.ensures.value
    ∙ ap (λ (z : ℤ). rnd z (pos 2))
    (to_z_pos w128 c.unsigned_abs.result short ∙ ap pos (size ∙ ap unsigned_abs c.get.ensures.value)))
