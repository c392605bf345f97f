-- Code units of UTF-16 that a string writes as \uXXXX, of which some hexadecimal digits were read.
use Rattle.std.specs.Prelude.{◌≡◌, ℕ, zero, suc, ◌+◌, ◌*◌, ◌⊎◌, List, ◌∷◌, ◌++◌}
use Rattle.std.specs.Char.{IsScalar}
use Rattle.lot_json.specs.declared.tokens.code_unit.DigitPlace.{DigitPlace}
use Rattle.lot_json.specs.declared.tokens.code_unit.DigitPlace.TheVariants.{First, Second, Third, Fourth}
use Rattle.lot_json.specs.Characters.{FollowedBy, pair_code}
use Rattle.lot_json.specs.Characters.{IsHexDigit, IsUnit, IsHighSurrogate, IsLowSurrogate}

-- The number of digits of the unit that are still to come.
abbrev pub digits_left : DigitPlace → ℕ
digits_left First = 4
digits_left Second = 3
digits_left Third = 2
digits_left Fourth = 1

-- The number of digits of the unit that come after the next.
abbrev pub digits_after : DigitPlace → ℕ
digits_after First = 3
digits_after Second = 2
digits_after Third = 1
digits_after Fourth = 0

-- The number of values that the digits before this place can have.
abbrev pub values_before : DigitPlace → ℕ
values_before First = 1
values_before Second = 16
values_before Third = 256
values_before Fourth = 4096

-- The bytes t begin with n digits that complete the value v to a unit u, and P holds of u and of the bytes after them.
abbrev pub Digits : ℕ → ℕ → List ℕ → (ℕ → List ℕ → Type 0) → Type 0
Digits zero v t P = P v t
Digits (suc n) v t P = (d w : ℕ) × (r : List ℕ) × IsHexDigit d w × (t ≡ d ∷ r) × Digits n (v * 16 + w) r P

-- After the unit of a high surrogate: the escape of a low surrogate, and then more characters.
abbrev pub AfterHigh : ℕ → List ℕ → List ℕ → Type 0
AfterHigh high t x =
    (low : ℕ) × (escape r : List ℕ) × IsUnit escape low × IsLowSurrogate low
    × (t ≡ escape ++ r) × FollowedBy (pair_code high low) r x

-- After the unit of a low surrogate.
abbrev pub AfterLow : ℕ → ℕ → List ℕ → List ℕ → Type 0
AfterLow high low t x = IsLowSurrogate low × FollowedBy (pair_code high low) t x

-- After a unit that no high surrogate comes before.
abbrev pub AfterUnit : ℕ → List ℕ → List ℕ → Type 0
AfterUnit u t x = (IsScalar u × FollowedBy u t x) ⊎ (IsHighSurrogate u × AfterHigh u t x)

-- The rest of a string from n digits of a unit on, after others with the value v. No high surrogate comes before it.
abbrev pub UnitRest : ℕ → ℕ → List ℕ → List ℕ → Type 0
UnitRest n v t x = Digits n v t (λ (u : ℕ) (r : List ℕ). AfterUnit u r x)

-- The same where the unit of a high surrogate comes before it.
abbrev pub LowRest : ℕ → ℕ → ℕ → List ℕ → List ℕ → Type 0
LowRest high n v t x = Digits n v t (λ (u : ℕ) (r : List ℕ). AfterLow high u r x)
