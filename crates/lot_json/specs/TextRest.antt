-- What remains to be read of a string.
use Rattle.std.specs.Prelude.{◌≡◌, ◌↔◌, ◌+◌, ◌<◌, ℕ, List, [], ◌∷◌, ◌++◌, length, take, slice_index}
use Rattle.lot_json.specs.declared.progress.Progress.{Progress}
use Rattle.lot_json.specs.declared.progress.Progress.TheVariants as progress
use Rattle.lot_json.specs.declared.tokens.text_token.TextToken.{TextToken}
use Rattle.lot_json.specs.Character.{CharacterRest}

-- The text of the characters that were read, in UTF-8.
abbrev pub text_of : TextToken → List ℕ
text_of s = s.text

-- The bytes t, of which the last is the closing quotation mark, end the string, which then is the text s: the text of
-- the characters that were read, followed by the text x of the character that was begun and of those after it.
unfoldable pub TextRest : TextToken → List ℕ → List ℕ → Type 0
TextRest k t s = (x : List ℕ) × CharacterRest k.character t x × (s ≡ text_of k ++ x)

-- Some bytes end the string.
abbrev pub CanEndText : TextToken → Type 0
CanEndText k = (t s : List ℕ) × TextRest k t s

-- The bytes belong to the string, and no prefix of them ends it.
pub record TakesRun (run : List ℕ) (old new : TextToken) : Type 0 where
  pub same : (t s : List ℕ) → TextRest old (run ++ t) s ↔ TextRest new t s
  pub whole : (b v s : List ℕ) → run ≡ b ++ v → TextRest old b s → ⊥
  pub can_end : CanEndText old → CanEndText new

-- The byte c ends the string.
abbrev pub EndsString : ℕ → TextToken → TextToken → Type 0
EndsString c old new = (t s : List ℕ) → TextRest old (c ∷ t) s ↔ ((t ≡ []) × (s ≡ text_of new))

-- No string continues with the byte c.
abbrev pub RejectsByte : ℕ → TextToken → TextToken → Type 0
RejectsByte c old new = (t s : List ℕ) → TextRest old (c ∷ t) s → ⊥

-- What the byte c, which comes after n bytes, is to the string.
abbrev pub TakesByte : ℕ → ℕ → Progress → TextToken → TextToken → Type 0
TakesByte c n (progress.Continues k) old new = (k ≡ n + 1) × TakesRun (c ∷ []) old new
TakesByte c n (progress.Ends k) old new = (k ≡ n) × EndsString c old new
TakesByte c n (progress.Rejects k) old new = (k ≡ n) × RejectsByte c old new

-- What a byte is to a string before and after it.
abbrev pub ByteRelation : Type 1
ByteRelation = ℕ → TextToken → TextToken → Type 0

-- The first n of the bytes belong to the string, and IsNext holds of the next.
pub record RunsTo (n : ℕ) (IsNext : ByteRelation) (bytes : List ℕ) (old new : TextToken) : Type 0 where
  pub before : TextToken
  pub within : n < length bytes
  pub run : TakesRun (take n bytes) old before
  pub byte : IsNext (slice_index bytes n) before new

-- What the bytes are to the string.
abbrev pub TakesPrefix : List ℕ → Progress → TextToken → TextToken → Type 0
TakesPrefix bytes (progress.Continues n) old new = (n ≡ length bytes) × TakesRun bytes old new
TakesPrefix bytes (progress.Ends n) old new = RunsTo n EndsString bytes old new
TakesPrefix bytes (progress.Rejects n) old new = RunsTo n RejectsByte bytes old new
