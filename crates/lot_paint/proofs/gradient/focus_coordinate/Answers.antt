use Rattle.std.proofs.Common.{rules, ◌∙◌, ◌≤◌, ◌^◌, ℤ, pos, ◌+ℤ◌, ◌*ℤ◌, unsigned_abs, ap₂, FitsSigned, w64, arith}
use Rattle.std.proofs.Math.Nat.{mul-le-mul}
use Rattle.std.specs.Int.{w128}
use Rattle.std.proofs.lemmas.Int.{ints, fits_signed_mul, unsigned_abs-mul, to_z-of_z}
use Rattle.lot_num.specs.Round.{rnd, limit}
use Rattle.lot_paint.proofs.gradient.focus_coordinate.Goals as goal

product_small : (f by : ℤ) → unsigned_abs f ≤ 10 ^ 8 → unsigned_abs by ≤ 10 ^ 13 → unsigned_abs (f *ℤ by) ≤ 10 ^ 21
product_small f by f_small by_small = omega (arith, unsigned_abs-mul f by, mul-le-mul f_small by_small)

product_fits : (f by : ℤ) → unsigned_abs f ≤ 10 ^ 8 → unsigned_abs by ≤ 10 ^ 13 → FitsSigned w128 (f *ℤ by)
product_fits f by f_small by_small = fits_signed_mul w128 f by (10 ^ 8) (10 ^ 13) f_small by_small (omega arith)

pub overflow_add-get : goal.overflow_add-get
overflow_add-get c =
    let by : FitsSigned w64 c.get.result = search rules in
    let wide_by : FitsSigned w128 c.get.result = search rules in
    let center : FitsSigned w64 c.get-2.result = search rules in
    let wide_center : FitsSigned w128 c.get-2.result = search rules in
    let fraction : FitsSigned w128 c.highlight_fraction.result = search rules in
    let shift : FitsSigned w128 c.rnd_div-shift.result = search rules in
    let by_small : unsigned_abs c.get.result ≤ 10 ^ 13 = c.get.ensures.range in
    let fits = product_fits c.highlight_fraction.result c.get.result c.highlight_fraction.ensures.small by_small in
    let small = product_small c.highlight_fraction.result c.get.result c.highlight_fraction.ensures.small by_small in
    let below = simp to_z-of_z at c.rnd_div-shift.ensures.small in
    let sum : FitsSigned w128 (c.get-2.result +ℤ c.rnd_div-shift.result) = omega (arith, ints, below, small, c.get-2.ensures.range) in
    simp to_z-of_z sum

pub returns : goal.returns
returns c =
    let by : FitsSigned w64 c.get.result = search rules in
    let wide_by : FitsSigned w128 c.get.result = search rules in
    let center : FitsSigned w64 c.get-2.result = search rules in
    let wide_center : FitsSigned w128 c.get-2.result = search rules in
    let fraction : FitsSigned w128 c.highlight_fraction.result = search rules in
    let shift : FitsSigned w128 c.rnd_div-shift.result = search rules in
    let by_small : unsigned_abs c.get.result ≤ 10 ^ 13 = c.get.ensures.range in
    let fits = product_fits c.highlight_fraction.result c.get.result c.highlight_fraction.ensures.small by_small in
    let small = product_small c.highlight_fraction.result c.get.result c.highlight_fraction.ensures.small by_small in
    let below = simp to_z-of_z at c.rnd_div-shift.ensures.small in
    let sum : FitsSigned w128 (c.get-2.result +ℤ c.rnd_div-shift.result) = omega (arith, ints, below, small, c.get-2.ensures.range) in
    let limited = simp to_z-of_z at c.limited.ensures in
    let shifted = simp to_z-of_z at c.rnd_div-shift.ensures.value in
    limited
    ∙ ap₂ (λ (a b : ℤ). limit (a +ℤ b)) c.get-2.ensures.value shifted
    ∙ ap₂ (λ (a b : ℤ). limit (c.args.center +ℤ rnd (a *ℤ b) (pos (10 ^ 6)))) c.highlight_fraction.ensures.value c.get.ensures.value
