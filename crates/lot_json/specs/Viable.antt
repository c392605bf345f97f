-- How far a list of bytes can become a JSON text.
use Rattle.std.specs.Prelude.{◌≡◌, ℕ, ◌<◌, ◌≤◌, ◌^◌, ◌-◌, List, ◌++◌, length, take, min}
use Rattle.lot_json.specs.declared.tree.json.Json.{Json}
use Rattle.lot_json.specs.Grammar.{JsonText}

-- The bytes are a JSON text of the profile.
abbrev pub IsJsonText : List ℕ → Type 0
IsJsonText b = (x : Json) × JsonText b x

-- Some continuation makes the bytes a JSON text.
abbrev pub IsViable : List ℕ → Type 0
IsViable b = (r : List ℕ) × IsJsonText (b ++ r)

-- k is the length of the longest prefix of the bytes that is viable.
pub record IsViableLength (b : List ℕ) (k : ℕ) : Type 0 where
  pub within : k ≤ length b
  pub viable : IsViable (take k b)
  pub longest : (j : ℕ) → k < j → j ≤ length b → IsViable (take j b) → ⊥

-- The greatest offset that is reported: the last value of a u64.
abbrev pub max_offset : ℕ
max_offset = 2 ^ 64 - 1

-- The offset is the length of the longest viable prefix of the bytes, or the greatest offset where that is less.
abbrev pub IsSyntaxOffset : List ℕ → ℕ → Type 0
IsSyntaxOffset b offset = (k : ℕ) × IsViableLength b k × (offset ≡ min k max_offset)
