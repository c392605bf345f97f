use Rattle.std.proofs.Common.{◌≡◌, ℕ, ◌+◌, ◌-◌, ◌/◌, ◌%◌, ◌^◌, ◌<◌, ◌≤◌, zero, suc, List, [], ◌∷◌, ◌++◌, length, drop, set, refl, sym, ap, ◌∙◌, arith, add-one}
use Rattle.std.proofs.Math.Nat.{div-div-eq-div-mul, pow-suc, pow-succ', pow-zero, div-one}
use Rattle.std.proofs.lemmas.Fmt.{decimal_by_steps}
use Rattle.std.proofs.lemmas.List.{drop-set, length-set, length_push}
use Rattle.std.specs.Fmt.{decimal}
use Rattle.lot_num.specs.Digits.{last_digits, digit_byte}

-- ---- digits written from the right

-- the bytes from `at` on show the last digits of n, and `rest` is n without these
pub record IsFilled (n : ℕ) (out : List ℕ) (at rest : ℕ) : Type 0 where
  pub within : at ≤ length out
  pub left : rest ≡ n / 10 ^ (length out - at)
  pub written : drop at out ≡ last_digits (length out - at) n

div-pow_suc : (n k : ℕ) → n / 10 ^ suc k ≡ n / 10 ^ k / 10
div-pow_suc n k = ap (λ (m : ℕ). n / m) (pow-suc 10 k) ∙ sym (div-div-eq-div-mul n (10 ^ k) 10)

digit_written : (n : ℕ) (out : List ℕ) (i k rest : ℕ) → i < length out → rest ≡ n / 10 ^ k
    → drop (i + 1) out ≡ last_digits k n → drop i (set out i (digit_byte (rest % 10))) ≡ last_digits (suc k) n
digit_written n out i k rest inside left written =
    drop-set out i (digit_byte (rest % 10)) inside
    ∙ ap (λ (m : ℕ). digit_byte (m % 10) ∷ drop (i + 1) out) left
    ∙ ap (λ (z : List ℕ). digit_byte (n / 10 ^ k % 10) ∷ z) written

pub one_more : (n : ℕ) (out : List ℕ) (at rest : ℕ) → IsFilled n out at rest → 0 < at
    → IsFilled n (set out (at - 1) (digit_byte (rest % 10))) (at - 1) (rest / 10)
one_more n out at rest filled some =
    let same_length = length-set out (at - 1) (digit_byte (rest % 10)) in
    let count : length (set out (at - 1) (digit_byte (rest % 10))) - (at - 1) ≡ suc (length out - at) = omega (arith, filled.within, same_length) in
    let here : at - 1 + 1 ≡ at = omega arith in
    record {
      within = omega (arith, filled.within, same_length);
      left = rw (count, div-pow_suc n (length out - at)) (ap (λ (m : ℕ). m / 10) filled.left);
      written = rw count (digit_written n out (at - 1) (length out - at) rest (omega (arith, filled.within)) filled.left (rw here filled.written));
    }

-- ---- all digits of a number

last_digits_push : (k n : ℕ) → last_digits (suc k) n ≡ last_digits k (n / 10) ++ digit_byte (n % 10) ∷ []
last_digits_push zero n = rw (pow-zero, div-one) refl
last_digits_push (suc k) n =
    let front : n / 10 ^ suc k ≡ n / 10 / 10 ^ k = ap (λ (m : ℕ). n / m) (pow-succ' 10 k) ∙ sym (div-div-eq-div-mul n 10 (10 ^ k)) in
    ap (λ (m : ℕ). digit_byte (m % 10) ∷ last_digits (suc k) n) front
    ∙ ap (λ (z : List ℕ). digit_byte (n / 10 / 10 ^ k % 10) ∷ z) (last_digits_push k n)

-- the text is as many last digits of n as it is long
abbrev IsWhole : ℕ → List ℕ → Type 0
IsWhole n text = last_digits (length text) n ≡ text

one_digit : (n : ℕ) → n < 10 → IsWhole n (digit_byte n ∷ [])
one_digit n h = let e : n / 1 % 10 ≡ n = omega arith in ap (λ (m : ℕ). digit_byte m ∷ []) e

more_digits : (n : ℕ) (text : List ℕ) → 10 ≤ n → IsWhole (n / 10) text → IsWhole n (text ++ digit_byte (n % 10) ∷ [])
more_digits n text h whole =
    ap (λ (k : ℕ). last_digits k n) (length_push text (digit_byte (n % 10)) ∙ add-one (length text))
    ∙ last_digits_push (length text) n
    ∙ ap (λ (z : List ℕ). z ++ digit_byte (n % 10) ∷ []) whole

pub last_digits-all : (n : ℕ) → n < 2 ^ 64 → last_digits (length (decimal n)) n ≡ decimal n
last_digits-all n h = decimal_by_steps IsWhole one_digit more_digits n h
