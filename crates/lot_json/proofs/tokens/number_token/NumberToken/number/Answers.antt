use Rattle.std.proofs.Common.{◌≡◌, ◌+◌, ℕ, ◌∙◌, ap, arith}
use Rattle.lot_json.proofs.CompletedNumbers.{number_up, number_down}
use Rattle.lot_json.proofs.tokens.number_token.NumberToken.number.Goals as goal

pub returns-then-minus : goal.returns-then-minus
returns-then-minus c =
    let down : c.from-down.result + c.from-power.result ≡ c.args.self.now.places + c.args.power = omega arith in
    c.signed_number.ensures
    ∙ number_down c.args.self.now c.args.minus _ _ c.args.power c.magnitude.result c.if-minus.true (ap (λ (z : ℕ). z + 6) c.from-up.ensures) down (c.magnitude.ensures c.args.self.now.minus)

pub returns : goal.returns
returns c =
    let up : c.from-up.result + 6 + c.from-power.result ≡ c.args.self.now.dropped + 6 + c.args.power = omega arith in
    c.signed_number-2.ensures
    ∙ number_up c.args.self.now c.args.minus _ _ c.args.power c.magnitude-2.result c.if-minus.false up c.from-down.ensures (c.magnitude-2.ensures c.args.self.now.minus)
