-- What remains to be read of a number token.
use Rattle.std.specs.Prelude.{◌≡◌, ℕ, ℤ, pos, ◌+◌, ◌≤◌, ◌+ℤ◌, ◌-ℤ◌, ◌⊎◌, Bool, List, [], ◌++◌, length, if◌then◌else◌}
use Rattle.lot_json.specs.declared.tree.number.Number.{Number}
use Rattle.lot_json.specs.declared.tokens.number_token.NumberToken.{NumberToken}
use Rattle.lot_json.specs.declared.tokens.number_token.NumberPlace.{NumberPlace}
use Rattle.lot_json.specs.declared.tokens.number_token.NumberPlace.TheVariants.{Start, Zero, Whole, Point, Fraction, Exponent, Sign, Power}
use Rattle.lot_json.specs.Bytes.{plus_sign, minus_sign, decimal_point, lower_e, upper_e}
use Rattle.lot_json.specs.NumberToken.{IsDigit, AreDigits, AreSomeDigits, IsWholePart, IsFraction, IsExponent, IsPower, append_digits, micro}

-- The token before its first digit, after a minus or not.
abbrev pub unread_number : Bool → NumberToken
unread_number minus = record { minus = minus; place = Start; lead = 0; dropped = 0; places = 0 }

-- An exponent with the digits of n and a sign.
abbrev pub signed_power : Bool → ℕ → ℤ
signed_power minus n = if minus then pos 0 -ℤ pos n else pos n

-- The number of the token, where these digits of the whole part, these decimals and this exponent follow. The number of
-- the digits that were read is lead * 10^(dropped - places). Digits are dropped only after fifteen others. Then neither
-- those that were dropped nor those that follow change the number, and so the latter may follow the fifteen at once.
abbrev pub completed_number : NumberToken → List ℕ → List ℕ → ℤ → Number
completed_number s whole decimals power =
    micro s.minus (append_digits s.lead (whole ++ decimals)) (s.places + length decimals) (power +ℤ pos s.dropped)

-- Digits of the whole part that IsRest holds of, then perhaps a fraction, then perhaps an exponent.
abbrev pub WholeRest : (List ℕ → Type 0) → NumberToken → List ℕ → Number → Type 0
WholeRest IsRest s t m =
    (whole fraction decimals exponent : List ℕ) × (power : ℤ) × IsRest whole × IsFraction fraction decimals
    × IsExponent exponent power × (t ≡ whole ++ fraction ++ exponent) × (m ≡ completed_number s whole decimals power)

-- Digits after the point that IsRest holds of, then perhaps an exponent.
abbrev pub DecimalsRest : (List ℕ → Type 0) → NumberToken → List ℕ → Number → Type 0
DecimalsRest IsRest s t m =
    (decimals exponent : List ℕ) × (power : ℤ) × IsRest decimals × IsExponent exponent power
    × (t ≡ decimals ++ exponent) × (m ≡ completed_number s [] decimals power)

-- After all digits: perhaps an exponent.
abbrev pub ExponentRest : NumberToken → List ℕ → Number → Type 0
ExponentRest s t m = (power : ℤ) × IsExponent t power × (m ≡ completed_number s [] [] power)

-- Digits of the exponent that IsRest holds of, after others whose number is n.
abbrev pub PowerRest : (List ℕ → Type 0) → Bool → ℕ → NumberToken → List ℕ → Number → Type 0
PowerRest IsRest minus n s t m = IsRest t × (m ≡ completed_number s [] [] (signed_power minus (append_digits n t)))

-- What remains to be read at each place.
abbrev pub RestAt : NumberPlace → NumberToken → List ℕ → Number → Type 0
RestAt Start s t m = WholeRest IsWholePart s t m
RestAt Zero s t m = WholeRest (λ whole. whole ≡ []) s t m
RestAt Whole s t m = WholeRest AreDigits s t m
RestAt Point s t m = DecimalsRest AreSomeDigits s t m
RestAt Fraction s t m = DecimalsRest AreDigits s t m
RestAt Exponent s t m = (power : ℤ) × IsPower t power × (m ≡ completed_number s [] [] power)
RestAt (Sign minus) s t m = PowerRest AreSomeDigits minus 0 s t m
RestAt (Power minus n) s t m = PowerRest AreDigits minus n s t m

-- The bytes t end the token, which then is the number m.
unfoldable pub NumberRest : NumberToken → List ℕ → Number → Type 0
NumberRest s t m = RestAt s.place s t m

-- Some bytes end the token.
abbrev pub CanEndNumber : NumberToken → Type 0
CanEndNumber s = (t : List ℕ) × (m : Number) × NumberRest s t m

-- The token counts at most n digits that were dropped before its point or kept after it.
unfoldable pub HasRoom : ℕ → NumberToken → Type 0
HasRoom n s = s.dropped + s.places ≤ n

-- A byte that a number token may begin with: a digit or a minus.
abbrev pub IsFirstNumberByte : ℕ → Type 0
IsFirstNumberByte c = IsDigit c ⊎ (c ≡ minus_sign)

-- A byte that a number token may contain: a digit, a sign, a point, an 'e' or an 'E'.
abbrev pub IsNumberByte : ℕ → Type 0
IsNumberByte c = IsDigit c
    ⊎ ((c ≡ plus_sign) ⊎ ((c ≡ minus_sign) ⊎ ((c ≡ decimal_point) ⊎ ((c ≡ lower_e) ⊎ (c ≡ upper_e)))))
