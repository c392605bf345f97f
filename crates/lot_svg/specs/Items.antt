-- The text of a frame as a list of items. An item is text without identifiers, or text that ends in one identifier, or
-- the end of a definition. So the law of identifiers speaks of the text itself. The form is this project's own.
use Rattle.std.specs.Prelude.{ℕ, ◌+◌, List, [], ◌∷◌, ◌++◌, codes}
use Rattle.std.specs.Fmt.{decimal}

pub data Item : Type 0 where
  -- Bytes without identifiers.
  plain : List ℕ → Item
  -- The bytes before the identifier of a definition that opens, and the number of the identifier.
  opens : List ℕ → ℕ → Item
  -- The bytes that end a definition, and the number of its identifier, which is not written.
  ends : List ℕ → ℕ → Item
  -- The bytes before a reference to a definition, and the number of its identifier.
  refers : List ℕ → ℕ → Item

-- The identifiers are i1, i2 and on.
unfoldable pub identifier_text : ℕ → List ℕ
identifier_text n = codes "i" ++ decimal n

abbrev pub bytes_of : Item → List ℕ
bytes_of (plain bytes) = bytes
bytes_of (opens before n) = before ++ identifier_text n
bytes_of (ends bytes n) = bytes
bytes_of (refers before n) = before ++ identifier_text n

abbrev pub text_of_items : List Item → List ℕ
text_of_items [] = []
text_of_items (item ∷ after) = bytes_of item ++ text_of_items after

-- How many definitions an item opens.
abbrev pub opened : Item → ℕ
opened (plain bytes) = 0
opened (opens before n) = 1
opened (ends bytes n) = 0
opened (refers before n) = 0

abbrev pub opened_by : List Item → ℕ
opened_by [] = 0
opened_by (item ∷ after) = opened item + opened_by after

-- A part has its items from the number of the next identifier. The parts follow one another, and so do their numbers.
abbrev pub parts : List (ℕ → List Item) → ℕ → List Item
parts [] n = []
parts (part ∷ after) n = part n ++ parts after (n + opened_by (part n))
