-- Characters of two to four bytes in UTF-8, of which some bytes were read.
use Rattle.std.specs.Prelude.{◌≡◌, ℕ, zero, suc, ◌+◌, ◌-◌, ◌*◌, ◌<◌, ◌≤◌, List, ◌∷◌}
use Rattle.std.specs.Char.{IsScalar}
use Rattle.lot_json.specs.declared.tokens.byte_sequence.BytesLeft.{BytesLeft}
use Rattle.lot_json.specs.declared.tokens.byte_sequence.BytesLeft.TheVariants.{One, Two, Three}
use Rattle.lot_json.specs.Characters.{FollowedBy, first_high_surrogate, first_after_surrogates}

-- The number of bytes that come after the next.
abbrev pub bytes_after : BytesLeft → ℕ
bytes_after One = 0
bytes_after Two = 1
bytes_after Three = 2

-- The bytes of the form 10xxxxxx, which follow the first byte of a character, are from 128 to 191.
abbrev pub first_continuation : ℕ
first_continuation = 128

abbrev pub last_continuation : ℕ
last_continuation = 191

-- The bits v, followed by the six bits of the byte b.
abbrev pub with_bits : ℕ → ℕ → ℕ
with_bits v b = v * 64 + (b - first_continuation)

-- The number of values that the bytes after the next can have.
abbrev pub values_after : BytesLeft → ℕ
values_after One = 1
values_after Two = 64
values_after Three = 4096

-- The codes of characters are below 0x110000.
abbrev pub codes_end : ℕ
codes_end = 1114112

-- Of the codes that begin with bits from low to high, n codes for each, all are below the surrogates, or all are above
-- them and are characters.
abbrev pub AreScalar : ℕ → ℕ → ℕ → Type 0
AreScalar n low high =
    first_high_surrogate < (high + 1) * n
    → (first_after_surrogates ≤ low * n) × ((high + 1) * n ≤ codes_end)

-- The bytes t begin with a byte from least to most and n bytes of the form 10xxxxxx, which make the bits v a character,
-- and then more characters come.
abbrev pub Continues : ℕ → ℕ → ℕ → ℕ → List ℕ → List ℕ → Type 0
Continues zero v least most t x =
    (b : ℕ) × (r : List ℕ) × (least ≤ b) × (b ≤ most) × (t ≡ b ∷ r)
    × IsScalar (with_bits v b) × FollowedBy (with_bits v b) r x
Continues (suc n) v least most t x =
    (b : ℕ) × (r : List ℕ) × (least ≤ b) × (b ≤ most) × (t ≡ b ∷ r)
    × Continues n (with_bits v b) first_continuation last_continuation r x
