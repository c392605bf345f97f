-- The order of identifiers. SVG 1.1, "Linking", asks that they be unique; that each comes before its use is this
-- project's own.
use Rattle.std.specs.Prelude.{◌≡◌, ℕ, zero, suc, ◌+◌, List, [], ◌∷◌, ◌++◌, Contains}
use Rattle.lot_svg.specs.Items.{Item, plain, opens, ends, refers, opened_by}

-- The numbers of the definitions that open, in order.
abbrev pub opened_numbers : List Item → List ℕ
opened_numbers [] = []
opened_numbers (plain bytes ∷ after) = opened_numbers after
opened_numbers (opens before n ∷ after) = n ∷ opened_numbers after
opened_numbers (ends bytes n ∷ after) = opened_numbers after
opened_numbers (refers before n ∷ after) = opened_numbers after

-- The numbers of the definitions that end, in order.
abbrev pub ended_numbers : List Item → List ℕ
ended_numbers [] = []
ended_numbers (plain bytes ∷ after) = ended_numbers after
ended_numbers (opens before n ∷ after) = ended_numbers after
ended_numbers (ends bytes n ∷ after) = n ∷ ended_numbers after
ended_numbers (refers before n ∷ after) = ended_numbers after

-- The given count of numbers from n on: n, n + 1 and so on.
abbrev pub numbers : ℕ → ℕ → List ℕ
numbers n zero = []
numbers n (suc count) = n ∷ numbers (n + 1) count

-- The definitions open as n, n + 1 and so on, each once. Each that ends opened before. Each reference comes after the
-- end of its definition.
pub record IsOrdered (n : ℕ) (items : List Item) : Type 0 where
  pub opened : opened_numbers items ≡ numbers n (opened_by items)
  pub ended : (before after : List Item) (bytes : List ℕ) (m : ℕ)
      → items ≡ before ++ ends bytes m ∷ after → Contains (opened_numbers before) m
  pub referred : (before after : List Item) (bytes : List ℕ) (m : ℕ)
      → items ≡ before ++ refers bytes m ∷ after → Contains (ended_numbers before) m
