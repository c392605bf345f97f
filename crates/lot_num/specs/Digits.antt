-- The text of a number of millionths. It is this project's own, and a number of SVG 1.1 and of CSS.
use Rattle.std.specs.Prelude.{ℕ, ℤ, pos, negsuc, unsigned_abs, Bool, ◌==◌, ◌+◌, ◌-◌, ◌/◌, ◌%◌, ◌^◌, zero, suc, List, [], ◌∷◌, ◌++◌, codes, if◌then◌else◌}
use Rattle.std.specs.Fmt.{decimal}
use Rattle.std.specs.List.{list_all}
use Rattle.lot_num.specs.Round.{rnd}

-- A minus sign for a number below 0.
abbrev pub sign_of : ℤ → List ℕ
sign_of (pos n) = []
sign_of (negsuc n) = codes "-"

-- The byte of a digit from 0 to 9.
abbrev pub digit_byte : ℕ → ℕ
digit_byte digit = 48 + digit

-- The last `count` digits of n in base ten, from the left, with zeros before them where n has fewer.
abbrev pub last_digits : ℕ → ℕ → List ℕ
last_digits zero n = []
last_digits (suc count) n = digit_byte (n / 10 ^ count % 10) ∷ last_digits count n

abbrev pub is_zero_digit : ℕ → Bool
is_zero_digit byte = byte == digit_byte 0

-- The digits up to the last one that is not 0.
abbrev pub without_end_zeros : List ℕ → List ℕ
without_end_zeros [] = []
without_end_zeros (digit ∷ more) =
    if list_all is_zero_digit (digit ∷ more) then [] else digit ∷ without_end_zeros more

-- A point and the decimals, or nothing where there are none.
abbrev pub after_point : List ℕ → List ℕ
after_point [] = []
after_point (digit ∷ more) = codes "." ++ digit ∷ more

-- The text after the whole part, where `part` is the fraction in units of the last decimal.
abbrev pub decimals_of : ℕ → ℕ → List ℕ
decimals_of places part = after_point (without_end_zeros (last_digits places part))

-- The text of v millionths, rounded to the given number of decimals: a minus sign where the rounded number is below 0,
-- the whole part, and the decimals where they are not all 0.
abbrev pub printed : ℤ → ℕ → List ℕ
printed v digits =
    let rounded = rnd v (pos (10 ^ (6 - digits))) in
    let size = unsigned_abs rounded in
    sign_of rounded ++ decimal (size / 10 ^ digits) ++ decimals_of digits (size % 10 ^ digits)
