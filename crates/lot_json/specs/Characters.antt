-- The characters of a JSON string by RFC 8259, section 7, in UTF-8 by RFC 3629. That an escape of a surrogate which
-- is not a whole pair is refused is this project's own profile.
use Rattle.std.specs.Prelude.{◌≡◌, ℕ, ◌+◌, ◌-◌, ◌*◌, ◌<◌, ◌≤◌, ◌≢◌, ◌⊎◌, List, [], ◌∷◌, ◌++◌, encode_utf8}
use Rattle.std.specs.Char.{IsScalar}
use Rattle.lot_json.specs.Bytes.{space, tab, line_feed, carriage_return, quote, backslash, slash, digit_0, digit_9, upper_a, upper_f, lower_a, lower_b, lower_f, lower_n, lower_r, lower_t, lower_u}

-- A character that may be unescaped: any from U+0020 on but the quotation mark and the backslash.
abbrev pub IsUnescaped : ℕ → Type 0
IsUnescaped c = IsScalar c × (space ≤ c) × (c ≢ quote) × (c ≢ backslash)

-- The letter of a short escape, and its character.
abbrev pub IsShortEscape : ℕ → ℕ → Type 0
IsShortEscape e c =
    ((e ≡ quote) × (c ≡ quote))
    ⊎ (((e ≡ backslash) × (c ≡ backslash))
    ⊎ (((e ≡ slash) × (c ≡ slash))
    ⊎ (((e ≡ lower_b) × (c ≡ 8))  -- backspace
    ⊎ (((e ≡ lower_f) × (c ≡ 12))  -- form feed
    ⊎ (((e ≡ lower_n) × (c ≡ line_feed))
    ⊎ (((e ≡ lower_r) × (c ≡ carriage_return))
    ⊎ ((e ≡ lower_t) × (c ≡ tab))))))))

-- A hexadecimal digit of either case, and its value.
abbrev pub IsHexDigit : ℕ → ℕ → Type 0
IsHexDigit c v =
    ((digit_0 ≤ c) × (c ≤ digit_9) × (v ≡ c - digit_0))
    ⊎ (((upper_a ≤ c) × (c ≤ upper_f) × (v ≡ c - 55))
    ⊎ ((lower_a ≤ c) × (c ≤ lower_f) × (v ≡ c - 87)))

-- Four hexadecimal digits, and their code unit.
pub record FourDigits (text : List ℕ) (unit : ℕ) : Type 0 where
  pub digit : ℕ × ℕ × ℕ × ℕ
  pub worth : ℕ × ℕ × ℕ × ℕ
  pub first : IsHexDigit digit.0 worth.0
  pub second : IsHexDigit digit.1 worth.1
  pub third : IsHexDigit digit.2 worth.2
  pub fourth : IsHexDigit digit.3 worth.3
  pub spelled : text ≡ digit.0 ∷ digit.1 ∷ digit.2 ∷ digit.3 ∷ []
  pub value : unit ≡ worth.0 * 4096 + worth.1 * 256 + worth.2 * 16 + worth.3

-- The first code unit of a surrogate pair is from 0xD800 on, and the second from 0xDC00 to 0xDFFF.
abbrev pub first_high_surrogate : ℕ
first_high_surrogate = 55296

abbrev pub first_low_surrogate : ℕ
first_low_surrogate = 56320

abbrev pub first_after_surrogates : ℕ
first_after_surrogates = 57344

-- A code unit that is the first of a surrogate pair.
abbrev pub IsHighSurrogate : ℕ → Type 0
IsHighSurrogate u = (first_high_surrogate ≤ u) × (u < first_low_surrogate)

-- A code unit that is the second of a surrogate pair.
abbrev pub IsLowSurrogate : ℕ → Type 0
IsLowSurrogate u = (first_low_surrogate ≤ u) × (u < first_after_surrogates)

-- The code of the character of a surrogate pair.
abbrev pub pair_code : ℕ → ℕ → ℕ
pair_code high low = 65536 + (high - first_high_surrogate) * 1024 + (low - first_low_surrogate)

-- The text of one escape \uXXXX, and its code unit.
abbrev pub IsUnit : List ℕ → ℕ → Type 0
IsUnit text unit = (digits : List ℕ) × FourDigits digits unit × (text ≡ backslash ∷ lower_u ∷ digits)

-- One character of a string as the text spells it: itself in UTF-8, a short escape, one escaped code unit that is no
-- surrogate, or an escaped surrogate pair.
pub data Spelling : List ℕ → ℕ → Type 0 where
  unescaped : {b : List ℕ} {c : ℕ}
      → IsUnescaped c
      → b ≡ encode_utf8 c
      → Spelling b c
  short : {b : List ℕ} {c : ℕ} (e : ℕ)
      → IsShortEscape e c
      → b ≡ backslash ∷ e ∷ []
      → Spelling b c
  unit : {b : List ℕ} {c : ℕ}
      → IsUnit b c
      → IsScalar c
      → Spelling b c
  pair : {b : List ℕ} {c : ℕ} (first second : List ℕ) (high low : ℕ)
      → IsUnit first high
      → IsHighSurrogate high
      → IsUnit second low
      → IsLowSurrogate low
      → b ≡ first ++ second
      → c ≡ pair_code high low
      → Spelling b c

-- The text of a string after its opening quotation mark, with the closing one, and the string in UTF-8.
pub data Characters : List ℕ → List ℕ → Type 0 where
  close : {b s : List ℕ}
      → b ≡ quote ∷ []
      → s ≡ []
      → Characters b s
  more : {b s : List ℕ} (spelling r t : List ℕ) (c : ℕ)
      → Spelling spelling c
      → Characters r t
      → b ≡ spelling ++ r
      → s ≡ encode_utf8 c ++ t
      → Characters b s

-- The text x is the character c, followed by the characters that the bytes t spell.
abbrev pub FollowedBy : ℕ → List ℕ → List ℕ → Type 0
FollowedBy c t x = (y : List ℕ) × Characters t y × (x ≡ encode_utf8 c ++ y)
