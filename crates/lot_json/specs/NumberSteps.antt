-- What one byte does to a number token, for the functions that take it.
use Rattle.std.specs.Prelude.{◌≡◌, ◌↔◌, ℕ, ℤ, ◌+◌, Bool, MatchBool, List, [], ◌∷◌}
use Rattle.lot_json.specs.declared.tree.number.Number.{Number}
use Rattle.lot_json.specs.declared.tokens.number_token.NumberToken.{NumberToken}
use Rattle.lot_json.specs.NumberToken.{AreDigits}
use Rattle.lot_json.specs.NumberRest.{NumberRest, CanEndNumber, HasRoom, IsNumberByte, completed_number}

-- The digit c of the whole part is counted in s', and s' counts at most one digit more than s.
pub record CountsWhole (c : ℕ) (s s' : NumberToken) : Type 0 where
  pub counts : (whole decimals : List ℕ) (power : ℤ)
      → AreDigits whole
      → AreDigits decimals
      → completed_number s (c ∷ whole) decimals power ≡ completed_number s' whole decimals power
  pub room : (n : ℕ) → HasRoom n s → HasRoom (n + 1) s'

-- The digit c after the point is counted in s', likewise.
pub record CountsDecimal (c : ℕ) (s s' : NumberToken) : Type 0 where
  pub counts : (decimals : List ℕ) (power : ℤ)
      → AreDigits decimals
      → completed_number s [] (c ∷ decimals) power ≡ completed_number s' [] decimals power
  pub room : (n : ℕ) → HasRoom n s → HasRoom (n + 1) s'

-- The byte c continues the token s, of which IsRest says what remains to be read, to the token s'.
pub record ContinuesFrom (IsRest : List ℕ → Number → Type 0) (c : ℕ) (s s' : NumberToken) : Type 0 where
  pub continues : (t : List ℕ) (m : Number) → IsRest (c ∷ t) m ↔ NumberRest s' t m
  pub byte : IsNumberByte c
  pub can_end : CanEndNumber s'
  pub room : (n : ℕ) → HasRoom n s → HasRoom (n + 1) s'

-- No number token continues s with the byte c, and s' is s.
pub record IsRejectedFrom (IsRest : List ℕ → Number → Type 0) (c : ℕ) (s s' : NumberToken) : Type 0 where
  pub rejects : (t : List ℕ) (m : Number) → IsRest (c ∷ t) m → ⊥
  pub same : s' ≡ s

-- The answer is whether the byte c continues the token s.
abbrev pub Takes : Bool → (List ℕ → Number → Type 0) → ℕ → NumberToken → NumberToken → Type 0
Takes answer IsRest c s s' = MatchBool answer (ContinuesFrom IsRest c s s') (IsRejectedFrom IsRest c s s')
