-- A table of full matrices while it is made. These serve private clauses: what a full matrix is, says Full alone.
use Rattle.std.specs.Prelude.{◌≡◌, ℕ, ℤ, List, [], ◌∷◌, length, slice_index_or, Option, Some, None, IsSome}
use Rattle.lot_comp.specs.Full.{full_matrix}
use Rattle.lot_refs.specs.Linked.{layers_of}
use Rattle.lot_refs.specs.Parents.{parent_of}
use Rattle.lot_types.specs.declared.doc.Doc.{Doc}
use Rattle.lot_types.specs.declared.layer.Layer.{Layer}
use Rattle.lot_types.specs.declared.matrix.Matrix.{Matrix}

-- An entry that is made is the full matrix of its layer.
abbrev pub IsFullIfMade : Doc → ℕ → ℤ → ℕ → Option Matrix → Type 0
IsFullIfMade d c t l None = Unit {0}
IsFullIfMade d c t l (Some m) = full_matrix d c l t ≡ Some m

pub record AreFullIfMade (d : Doc) (c : ℕ) (t : ℤ) (made : List (Option Matrix)) : Type 0 where
  pub count : length made ≡ length (layers_of d c)
  pub full : (l : ℕ) → IsFullIfMade d c t l (slice_index_or made l None)

-- The entry of a layer is made, if there is a layer.
abbrev pub IsMade : List (Option Matrix) → Option ℕ → Type 0
IsMade made None = Unit {0}
IsMade made (Some l) = IsSome (slice_index_or made l None)

-- Each of these layers is the child of the one before it, the first that of k, and the last is l; without layers k is
-- l.
abbrev pub LeadsDown : List Layer → ℕ → ℕ → List ℕ → Type 0
LeadsDown layers l k [] = k ≡ l
LeadsDown layers l k (j ∷ js) = (parent_of layers j ≡ Some k) × LeadsDown layers l j js

-- The same from the parent of the first, if it has one.
abbrev pub IsClimbed : List Layer → ℕ → Option ℕ → List ℕ → Type 0
IsClimbed layers l above [] = above ≡ Some l
IsClimbed layers l above (k ∷ js) = (parent_of layers k ≡ above) × LeadsDown layers l k js

-- What is left to make: layers down to l, of which the first is the child of a layer that is made, or of none.
pub record IsLeft (layers : List Layer) (made : List (Option Matrix)) (l : ℕ) (above : Option ℕ) (left : List ℕ)
    : Type 0 where
  pub climbed : IsClimbed layers l above left
  pub made_above : IsMade made above
