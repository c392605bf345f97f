use Rattle.std.proofs.Common.{ℕ, List, ◌∷◌, ◌+◌, ◌*◌}
use Rattle.lot_json.specs.CodeUnit.{Digits, AfterUnit, digits_left, digits_after}
use Rattle.lot_json.proofs.CharacterMoves.{same_leads, digit_at, no_digit_at}
use Rattle.lot_json.proofs.tokens.code_unit.CodeUnit.take_digit.Goals as goal

pub returns-in-Some : goal.returns-in-Some
returns-in-Some c =
    let u = c.args.self in
    same_leads
    (λ (t x : List ℕ). Digits (digits_left u.next) u.value (c.args.c ∷ t) (λ (v : ℕ) (r : List ℕ). AfterUnit v r x))
    (λ (t x : List ℕ). Digits (digits_after u.next) (u.value * 16 + c.in-Some.digit) t (λ (v : ℕ) (r : List ℕ). AfterUnit v r x)) c.with_digits.result
    (λ t x. digit_at u.next u.value c.args.c c.in-Some.digit (λ (v : ℕ) (r : List ℕ). AfterUnit v r x) t c.in-Some.ensures.digit) c.with_digits.ensures

pub returns-in-None : goal.returns-in-None
returns-in-None c = λ t x. no_digit_at c.args.self.next c.args.self.value c.args.c (λ (v : ℕ) (r : List ℕ). AfterUnit v r x) t c.in-None.ensures.other
