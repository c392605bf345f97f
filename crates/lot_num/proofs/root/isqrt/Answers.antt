use Rattle.std.proofs.Common.{◌≡◌, ◌∙◌, ℕ, ◌+◌, ◌*◌, ◌/◌, ◌%◌, ◌^◌, ◌<◌, ◌≤◌, ap, sym, refl, subst, arith, rules}
use Rattle.std.proofs.Math.Nat.{mod-eq_of_lt}
use Rattle.std.proofs.Math.Pow.{pow_mono}
use Rattle.std.proofs.lemmas.Nat.{pow-add}
use Rattle.lot_num.proofs.Squares.{root_is}
use Rattle.lot_num.proofs.root.isqrt.Goals as goal

pub returns-then-x-eq0-clause-value : goal.returns-then-x-eq0-clause-value
returns-then-x-eq0-clause-value c =
    let zero : c.args.x ≡ 0 = search rules in
    sym (root_is c.args.x 0 (omega arith) (omega (arith, zero)))

-- Half of the digits of a number give a number that is not above the root, and whose double is.
squares : (x b k p : ℕ) → 2 ^ b ≤ x → x < 2 * 2 ^ b → b < 128 → k ≡ b / 2 → p ≡ 2 ^ k
    → (p * p ≤ x) × (x < 2 * p * (2 * p)) × (p < 2 * p) × (2 * p ≤ 2 ^ 64)
squares x b k p below above few half is =
    let square : p * p ≡ 2 ^ (k + k) = ap (λ (n : ℕ). n * n) is ∙ sym (pow-add 2 k k) in
    let within : 2 ^ (k + k) ≤ 2 ^ b = pow_mono (omega (arith, half)) in
    let twice : 2 ^ b ≤ 2 ^ (k + k + 1) = pow_mono (omega (arith, half)) in
    let more : 2 ^ (k + k + 1) ≡ 2 ^ (k + k) * 2 = pow-add 2 (k + k) 1 in
    let small : 2 ^ k ≤ 2 ^ 63 = pow_mono {i = k} {j = 63} (omega (arith, half, few)) in
    let positive : 2 ^ 0 ≤ 2 ^ k = pow_mono {i = 0} {j = k} (omega arith) in (
      omega (arith, square, within, below),
      omega (arith, square, twice, more, above),
      omega (arith, positive, is),
      omega (arith, small, is),
    )

shifted : (b : ℕ) → b < 128 → 1 * 2 ^ (b / 2) % 2 ^ 128 ≡ 2 ^ (b / 2)
shifted b few =
    let small : 2 ^ (b / 2) ≤ 2 ^ 63 = pow_mono {i = b / 2} {j = 63} (omega (arith, few)) in
    let one : 1 * 2 ^ (b / 2) ≡ 2 ^ (b / 2) = omega arith in
    ap (λ (n : ℕ). n % 2 ^ 128) one ∙ mod-eq_of_lt (omega (arith, small))

pub loop-low-init : goal.loop-low-init
loop-low-init c =
    let b = c.ilog2.result in
    let s = squares c.args.x b (b / 2) (1 * 2 ^ (b / 2) % 2 ^ 128) c.ilog2.ensures.power_le c.ilog2.ensures.next_power_gt
    c.ilog2.ensures.bound refl (shifted b c.ilog2.ensures.bound) in
    record { square = s.0; next = s.1; apart = s.2; small = s.3 }

pub returns-clause-value : goal.returns-clause-value
returns-clause-value c =
    let h = c.loop-low.invariant in
    let last : c.loop-low.high ≡ c.loop-low.low + 1 = omega (arith, c.loop-low-test.false, h.apart) in
    sym (root_is c.args.x c.loop-low.low h.square (subst (λ (n : ℕ). c.args.x < n * n) last h.next))
