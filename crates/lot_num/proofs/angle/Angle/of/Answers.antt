use Rattle.std.proofs.Common.{◌≡◌, ℕ, ℤ, unsigned_abs, ◌+◌, ◌*◌, ◌/◌, ◌<◌, ◌-ℤ◌, ◌∙◌, ap, FitsSigned, w64, to_z, of_z, arith, rules}
use Rattle.std.proofs.lemmas.Int.{ints, to_z-of_z}
use Rattle.lot_num.specs.Angle.{radians, within_turn, from_quarter, full_turn}
use Rattle.lot_num.proofs.angle.Angle.of.Goals as goal

-- the angle from the middle of the quarter, as the code subtracts in 64 bits
abbrev subtracted : ℕ → ℤ
subtracted r = to_z w64 (of_z w64 (to_z w64 r -ℤ to_z w64 ((r + 45000000) / 90000000 * 90000000)))

subtracts : (r : ℕ) → r < full_turn → subtracted r ≡ from_quarter r
subtracts r h = omega (arith, ints, h)

pub returns-clause-radians : goal.returns-clause-radians
returns-clause-radians c =
    let result : FitsSigned w64 c.radians.result = search rules in
    let remainder : FitsSigned w64 c.rem_euclid-within.result = search rules in
    let within : unsigned_abs (to_z w64 (of_z w64 c.rem_euclid-within.result)) ≡ within_turn c.args.a = search rules in
    let small : within_turn c.args.a < full_turn = omega (arith, ints, within, c.rem_euclid-within.ensures.upper_bound) in
    let angle = ap subtracted within ∙ subtracts (within_turn c.args.a) small in
    simp to_z-of_z (c.radians.ensures.value ∙ ap radians angle)
