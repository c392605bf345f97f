use Rattle.std.proofs.Common.{◌≡◌, ◌≤◌, ◌^◌, ℤ, pos, unsigned_abs, ap, ◌∙◌, rules, arith}
use Rattle.std.proofs.lemmas.Int.{ints}
use Rattle.lot_num.specs.Round.{rnd}
use Rattle.lot_num.specs.Easing.{curve, cube, grid_steps}
use Rattle.lot_num.proofs.Curves.{height_small}
use Rattle.lot_num.proofs.easing.height_at.Goals as goal

pub overflow_cast-result : goal.overflow_cast-result
overflow_cast-result c =
    let value : c.rnd_div.result ≡ rnd c.curve_at.result (pos (cube grid_steps)) = search rules in
    let small : unsigned_abs c.rnd_div.result ≤ 10 ^ 8 = rw value (height_small c.curve_at.result c.curve_at.ensures.small) in
    omega (arith, ints, small)

pub returns-clause-value : goal.returns-clause-value
returns-clause-value c =
    let at : c.curve_at.result ≡ curve c.args.a c.args.b c.args.g = search rules in
    let value : c.rnd_div.result ≡ rnd c.curve_at.result (pos (cube grid_steps)) = search rules in
    let small : unsigned_abs c.rnd_div.result ≤ 10 ^ 8 = rw value (height_small c.curve_at.result c.curve_at.ensures.small) in
    omega (arith, ints, small) ∙ value ∙ ap (λ (z : ℤ). rnd z (pos (cube grid_steps))) at

pub returns-clause-small : goal.returns-clause-small
returns-clause-small c =
    let value : c.rnd_div.result ≡ rnd c.curve_at.result (pos (cube grid_steps)) = search rules in
    let small : unsigned_abs c.rnd_div.result ≤ 10 ^ 8 = rw value (height_small c.curve_at.result c.curve_at.ensures.small) in
    omega (arith, ints, small)
