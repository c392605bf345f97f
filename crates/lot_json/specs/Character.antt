-- The rest of a string from within a character on.
use Rattle.std.specs.Prelude.{◌≡◌, ◌↔◌, ℕ, List, [], ◌∷◌, Option, Some, None}
use Rattle.lot_json.specs.declared.tokens.character.Character.{Character}
use Rattle.lot_json.specs.declared.tokens.character.Character.TheVariants.{Nothing, Backslash, Unit, High, HighBackslash, Low, Bytes}
use Rattle.lot_json.specs.declared.tokens.character.Taken.{Taken}
use Rattle.lot_json.specs.declared.tokens.character.Taken.TheVariants.{Part, Whole, Quote}
use Rattle.lot_json.specs.Bytes.{backslash}
use Rattle.lot_json.specs.Characters.{Characters, FollowedBy}
use Rattle.lot_json.specs.CodeUnit.{UnitRest, LowRest, AfterHigh, digits_left}
use Rattle.lot_json.specs.ByteSequence.{Continues, bytes_after}

-- The bytes t complete the character, and then spell more characters up to the closing quotation mark. The text x is
-- the character and those that follow.
abbrev pub CharacterRest : Character → List ℕ → List ℕ → Type 0
CharacterRest Nothing t x = Characters t x
CharacterRest Backslash t x = Characters (backslash ∷ t) x
CharacterRest (Unit u) t x = UnitRest (digits_left u.next) u.value t x
CharacterRest (High h) t x = AfterHigh h.unit t x
CharacterRest (HighBackslash h) t x = AfterHigh h.unit (backslash ∷ t) x
CharacterRest (Low h u) t x = LowRest h.unit (digits_left u.next) u.value t x
CharacterRest (Bytes s) t x = Continues (bytes_after s.left) s.bits s.least s.most t x

-- Some bytes complete the character and end the string.
abbrev pub CanEndCharacter : Character → Type 0
CanEndCharacter character = (t x : List ℕ) × CharacterRest character t x

-- R relates the bytes t that may follow a byte to the text x that they then have. By what was taken with the byte, they
-- are those that complete the character, those after a whole character, or none after the closing quotation mark. No
-- bytes may follow where nothing was taken.
abbrev pub LeadsTo : (List ℕ → List ℕ → Type 0) → Option Taken → Type 0
LeadsTo R (Some (Part character)) =
    ((t x : List ℕ) → R t x ↔ CharacterRest character t x) × CanEndCharacter character
LeadsTo R (Some (Whole c)) = (t x : List ℕ) → R t x ↔ FollowedBy c t x
LeadsTo R (Some Quote) = (t x : List ℕ) → R t x ↔ ((t ≡ []) × (x ≡ []))
LeadsTo R None = (t x : List ℕ) → R t x → ⊥
