-- Number tokens by RFC 8259, section 6, and the millionths of each. That a number is kept in millionths, and how it is
-- rounded, is this project's own.
use Rattle.std.specs.Prelude.{◌≡◌, ℕ, ℤ, pos, negsuc, ◌+◌, ◌-◌, ◌*◌, ◌/◌, ◌%◌, ◌^◌, ◌≤◌, ◌+ℤ◌, ◌-ℤ◌, ◌⊎◌, Bool, List, [], ◌∷◌, ◌++◌, length, nat_lt, nat_le, if◌then◌else◌}
use Rattle.lot_json.specs.declared.tree.number.Number.{Number}
use Rattle.lot_json.specs.declared.tree.number.Number.TheVariants.{Micro, Beyond}
use Rattle.lot_json.specs.Bytes.{digit_0, digit_1, digit_9, plus_sign, minus_sign, decimal_point, lower_e, upper_e}

-- One of the bytes '0' to '9'.
abbrev pub IsDigit : ℕ → Type 0
IsDigit c = (digit_0 ≤ c) × (c ≤ digit_9)

abbrev pub AreDigits : List ℕ → Type 0
AreDigits [] = Unit {0}
AreDigits (c ∷ cs) = IsDigit c × AreDigits cs

-- The number of the digits of n followed by these digits.
abbrev pub append_digits : ℕ → List ℕ → ℕ
append_digits n [] = n
append_digits n (c ∷ cs) = append_digits (10 * n + (c - digit_0)) cs

-- The number of digits in decimal.
abbrev pub digits_value : List ℕ → ℕ
digits_value cs = append_digits 0 cs

-- The whole part: '0' alone, or digits of which the first is not '0'.
abbrev pub IsWholePart : List ℕ → Type 0
IsWholePart [] = ⊥
IsWholePart (c ∷ []) = IsDigit c
IsWholePart (c ∷ d ∷ cs) = (digit_1 ≤ c) × (c ≤ digit_9) × AreDigits (d ∷ cs)

-- One digit or more.
abbrev pub AreSomeDigits : List ℕ → Type 0
AreSomeDigits [] = ⊥
AreSomeDigits (c ∷ cs) = AreDigits (c ∷ cs)

-- The text of a fraction, and its digits: nothing, or a point and some digits.
abbrev pub IsFraction : List ℕ → List ℕ → Type 0
IsFraction [] digits = digits ≡ []
IsFraction (c ∷ cs) digits = (c ≡ decimal_point) × AreSomeDigits cs × (digits ≡ cs)

-- The text of an exponent after its 'e' or 'E', and its number: perhaps a sign, and some digits.
abbrev pub IsPower : List ℕ → ℤ → Type 0
IsPower [] e = ⊥
IsPower (c ∷ cs) e =
    ((c ≡ plus_sign) × AreSomeDigits cs × (e ≡ pos (digits_value cs)))
    ⊎ (((c ≡ minus_sign) × AreSomeDigits cs × (e ≡ pos 0 -ℤ pos (digits_value cs)))
    ⊎ (AreDigits (c ∷ cs) × (e ≡ pos (digits_value (c ∷ cs)))))

-- The text of an exponent, and its number: nothing, which is 0, or an 'e' or 'E' and a power.
abbrev pub IsExponent : List ℕ → ℤ → Type 0
IsExponent [] e = e ≡ pos 0
IsExponent (c ∷ cs) e = ((c ≡ lower_e) ⊎ (c ≡ upper_e)) × IsPower cs e

-- The text of a sign, and whether it is a minus.
abbrev pub IsSign : List ℕ → Bool → Type 0
IsSign text minus = (text ≡ (if minus then minus_sign ∷ [] else []))

-- The whole part of n * 10^k, plus 1 where the first digit after its point is 5 or more.
abbrev pub scaled : ℕ → ℤ → ℕ
scaled n (pos k) = n * 10 ^ k
scaled n (negsuc k) = n / 10 ^ (k + 1) + (if nat_le 5 (n / 10 ^ k % 10) then 1 else 0)

-- The largest magnitude in range: ten million, in millionths.
abbrev pub max_magnitude : ℕ
max_magnitude = 10 ^ 13

-- The number of a magnitude in millionths and a sign. Above the largest magnitude it is beyond the range.
abbrev pub number_of : Bool → ℕ → Number
number_of minus n = if nat_lt max_magnitude n then Beyond else Micro (if minus then pos 0 -ℤ pos n else pos n)

-- The number whose digits without the point are those of n, with `places` of them after the point, and whose exponent
-- is e. So its exact magnitude is n * 10^(e - places).
abbrev pub micro : Bool → ℕ → ℕ → ℤ → Number
micro minus n places e = number_of minus (scaled n ((e -ℤ pos places) +ℤ pos 6))

-- The bytes are a number token, and this is its number.
pub record IsNumberToken (text : List ℕ) (number : Number) : Type 0 where
  pub minus : Bool
  pub sign : List ℕ
  pub whole : List ℕ
  pub fraction : List ℕ
  pub decimals : List ℕ
  pub exponent : List ℕ
  pub power : ℤ
  pub is_sign : IsSign sign minus
  pub is_whole : IsWholePart whole
  pub is_fraction : IsFraction fraction decimals
  pub is_exponent : IsExponent exponent power
  pub spelled : text ≡ sign ++ whole ++ fraction ++ exponent
  pub value : number ≡ micro minus (digits_value (whole ++ decimals)) (length decimals) power
