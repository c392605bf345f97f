use Rattle.std.proofs.Common.{◌≡◌, ℤ, ◌+ℤ◌, ◌-ℤ◌, ◌*ℤ◌, ◌∙◌, ap, FitsSigned, w64, arith, rules}
use Rattle.std.specs.Int.{w128}
use Rattle.std.proofs.lemmas.Int.{ints, to_z-of_z}
use Rattle.lot_num.specs.Round.{rnd, limit}
use Rattle.lot_geom.proofs.arc_length.between.Goals as goal

pub returns : goal.returns
returns c =
    let from : FitsSigned w64 c.get-3.result = search rules in
    let wide_from : FitsSigned w128 c.get-3.result = search rules in
    let part_fits : FitsSigned w128 c.part_of-change.result = search rules in
    let sum_fits : FitsSigned w128 (c.get-3.result +ℤ c.part_of-change.result) = omega (arith, ints) in
    let part : c.part_of-change.result ≡ rnd ((c.args.to -ℤ c.args.from) *ℤ c.args.passed) c.args.whole = search rules in
    let value = simp to_z-of_z at c.limited.ensures in
    value
    ∙ ap (λ (z : ℤ). limit (z +ℤ c.part_of-change.result)) c.get-3.ensures.value
    ∙ ap (λ (z : ℤ). limit (c.args.from +ℤ z)) part
