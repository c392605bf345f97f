use Rattle.std.proofs.Common.{rules, ◌≡◌, ◌∙◌, ℤ, ◌-ℤ◌, ◌≤ℤ◌, ◌<ℤ◌, ◌+ℤ◌, ◌*ℤ◌, ap, ap₂, FitsSigned, w64, arith}
use Rattle.std.specs.Int.{w128}
use Rattle.std.proofs.lemmas.Int.{ints, to_z-of_z}
use Rattle.lot_num.specs.Easing.{between, IsPart}
use Rattle.lot_num.specs.Round.{limit, rnd}
use Rattle.lot_paint.specs.Stops.{interpolated_number}
use Rattle.lot_paint.proofs.interpolated.interpolated_number.Goals as goal

limit_again : (x : ℤ) → limit (limit x) ≡ limit x
limit_again x = grind (arith, ints)

pub ease_linear-requires-clause-part : goal.ease_linear-requires-clause-part
ease_linear-requires-clause-part c =
    let from : c.args.low ≤ℤ c.args.x = grind (arith, ints, c.requires.from) in
    let to : c.args.x <ℤ c.args.high = grind (arith, ints, c.requires.to) in
    let x : FitsSigned w64 c.get.result = search rules in
    let low : FitsSigned w64 c.get-2.result = search rules in
    let high : FitsSigned w64 c.get-3.result = search rules in
    let low' : FitsSigned w64 c.get-4.result = search rules in
    let passed : FitsSigned w64 (c.get.result -ℤ c.get-2.result) = omega (arith, ints) in
    let whole : FitsSigned w64 (c.get-3.result -ℤ c.get-4.result) = omega (arith, ints) in
    let part : IsPart (c.get.result -ℤ c.get-2.result) (c.get-3.result -ℤ c.get-4.result) = record {
      from = omega (arith, ints);
      to = omega (arith, ints);
      positive = omega (arith, ints);
      short = omega (arith, ints);
    } in
    simp to_z-of_z part

pub returns : goal.returns
unfolding interpolated_number
returns c =
    let x : FitsSigned w64 c.get.result = search rules in
    let low : FitsSigned w64 c.get-2.result = search rules in
    let high : FitsSigned w64 c.get-3.result = search rules in
    let low' : FitsSigned w64 c.get-4.result = search rules in
    let v : FitsSigned w64 c.get-5.result = search rules in
    let w : FitsSigned w64 c.get-6.result = search rules in
    let passed : FitsSigned w64 (c.get.result -ℤ c.get-2.result) = omega (arith, ints) in
    let whole : FitsSigned w64 (c.get-3.result -ℤ c.get-4.result) = omega (arith, ints) in
    let narrow : FitsSigned w64 c.ease_linear.result = search rules in
    let wide : FitsSigned w128 c.ease_linear.result = search rules in
    let limited = simp to_z-of_z at c.limited.ensures in
    let eased = simp to_z-of_z at c.ease_linear.ensures in
    let gone : c.get.result -ℤ c.get-2.result ≡ c.args.x -ℤ c.args.low =
    ap₂ (λ (a b : ℤ). a -ℤ b) c.get.ensures.value c.get-2.ensures.value in
    let all : c.get-3.result -ℤ c.get-4.result ≡ c.args.high -ℤ c.args.low =
    ap₂ (λ (a b : ℤ). a -ℤ b) c.get-3.ensures.value c.get-4.ensures.value in
    limited ∙ ap limit eased
    ∙ ap₂ (λ (a b : ℤ). limit (between a b (c.get.result -ℤ c.get-2.result) (c.get-3.result -ℤ c.get-4.result)))
    c.get-5.ensures.value c.get-6.ensures.value
    ∙ ap₂ (λ (a b : ℤ). limit (between c.args.v c.args.w a b)) gone all
    ∙ limit_again (c.args.v +ℤ rnd ((c.args.w -ℤ c.args.v) *ℤ (c.args.x -ℤ c.args.low)) (c.args.high -ℤ c.args.low))
