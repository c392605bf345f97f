use Rattle.std.proofs.Common.{◌≡◌, ◌∙◌, ◌<◌, ◌+ℤ◌, ◌^◌, pos, unsigned_abs, ap, FitsSigned, w64, rules, arith}
use Rattle.std.specs.Int.{w128, int_rem_euclid}
use Rattle.std.proofs.lemmas.Int.{to_z-of_z, to_z_pos}
use Rattle.lot_num.specs.Round.{rnd}
use Rattle.lot_trim.specs.Cut.{start_of, whole_run}
use Rattle.lot_trim.proofs.cut.TrimCut.start.Goals as goal

pub returns-clause-value : goal.returns-clause-value
unfolding start_of
returns-clause-value c =
    let offset : c.rnd_div-offset.result ≡ rnd c.args.self.now.o (pos 360) = search rules in
    let wide : FitsSigned w128 c.rnd_div-offset.result = search rules in
    let narrow : FitsSigned w64 c.rnd_div-offset.result = search rules in
    let short : c.first_fraction.result < 2 ^ 63 = omega (arith, c.first_fraction.ensures.small) in
    let first = to_z_pos w64 c.first_fraction.result short in
    let sum : FitsSigned w64 (pos c.first_fraction.result +ℤ c.rnd_div-offset.result) = search rules in
    let remainder : FitsSigned w64 c.rem_euclid.result = search rules in
    let value : c.rem_euclid.result ≡ int_rem_euclid (pos c.first_fraction.result +ℤ c.rnd_div-offset.result) (pos whole_run) =
    simp (to_z-of_z, first) at c.rem_euclid.ensures.value in
    simp to_z-of_z (ap unsigned_abs (value
    ∙ (λ i. int_rem_euclid (pos (c.first_fraction.ensures.value i) +ℤ offset i) (pos whole_run))))
