-- Bytes of a string that belong to unescaped characters.
use Rattle.std.specs.Prelude.{ℕ, ◌≤◌, ◌≢◌, List, [], ◌∷◌}
use Rattle.lot_json.specs.Bytes.{space, quote, backslash}

-- A byte that an unescaped character may contain: no control character, no quotation mark and no backslash.
abbrev pub IsUnescapedByte : ℕ → Type 0
IsUnescapedByte c = (space ≤ c) × (c ≢ quote) × (c ≢ backslash)

abbrev pub AreUnescapedBytes : List ℕ → Type 0
AreUnescapedBytes [] = Unit {0}
AreUnescapedBytes (c ∷ cs) = IsUnescapedByte c × AreUnescapedBytes cs
