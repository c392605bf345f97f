use Rattle.std.proofs.Common.{◌≡◌, ℤ, pos, negsuc, zero, suc, unsigned_abs, ◌≤◌, ◌*ℤ◌, ◌^◌, ◌∙◌, refl, ap, FitsSigned, w64, of_z, arith, rules}
use Rattle.std.specs.Int.{w128}
use Rattle.std.proofs.lemmas.Int.{ints, fits_signed_mul, to_z-of_z}
use Rattle.lot_num.specs.Round.{rnd, limit, max_millionths}
use Rattle.lot_num.specs.Angle.{tangent_of}
use Rattle.lot_num.proofs.Limits.{limit_small}
use Rattle.lot_num.proofs.angle.tangent_of.Goals as goal

quotient_of : (s c : ℤ) → (c ≡ pos 0 → ⊥) → limit (rnd (s *ℤ pos (10 ^ 6)) c) ≡ tangent_of s c
quotient_of s (pos zero) nonzero = absurd (nonzero refl)
quotient_of s (pos (suc n)) nonzero = grind (arith, ints)
quotient_of s (negsuc n) nonzero = refl

quotient : (c : goal.After-clamp_fx) → c.clamp_fx.result ≡ limit (rnd (c.args.sine *ℤ pos (10 ^ 6)) c.args.cosine)
quotient c =
    let sine : FitsSigned w64 c.args.sine = c.ranges.sine in
    let cosine : FitsSigned w64 c.args.cosine = c.ranges.cosine in
    let wide_sine : FitsSigned w128 c.args.sine = search rules in
    let wide_cosine : FitsSigned w128 c.args.cosine = search rules in
    let fits : FitsSigned w128 (c.args.sine *ℤ pos (10 ^ 6)) =
    fits_signed_mul w128 c.args.sine (pos (10 ^ 6)) (10 ^ 6) (10 ^ 6) c.requires.sine_small (omega arith) (omega arith) in
    let result : FitsSigned w128 c.rnd_div.result = search rules in
    let rounded = simp to_z-of_z at c.rnd_div.ensures.value in
    let limited = simp to_z-of_z at c.clamp_fx.ensures in
    limited ∙ ap limit rounded

pub returns-clause-value : goal.returns-clause-value
returns-clause-value c =
    let result : FitsSigned w64 c.clamp_fx.result = search rules in
    let nonzero : c.args.cosine ≡ pos 0 → ⊥ = λ e. c.if-cosine-eq0.false (ap (of_z w64) e) in
    simp to_z-of_z (quotient c ∙ quotient_of c.args.sine c.args.cosine nonzero)

pub returns-clause-small : goal.returns-clause-small
returns-clause-small c =
    let result : FitsSigned w64 c.clamp_fx.result = search rules in
    let small : unsigned_abs c.clamp_fx.result ≤ max_millionths = rw (quotient c) (limit_small (rnd (c.args.sine *ℤ pos (10 ^ 6)) c.args.cosine)) in
    simp to_z-of_z small
