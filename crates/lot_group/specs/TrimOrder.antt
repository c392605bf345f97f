-- The order of the trims that act on one leaf: those of inner lists first, and within one list in order of place.
use Rattle.std.specs.Prelude.{◌≡◌, ℕ, ◌<◌, ◌⊎◌, List, [], ◌∷◌, ◌++◌, length}
use Rattle.std.specs.List.{filter}
use Rattle.lot_types.specs.declared.item.Item.{Item}
use Rattle.lot_group.specs.Live.{Entry, live, trims}
use Rattle.lot_group.specs.Outlines.{acts}

-- The place of r is longer than that of s, or r comes before s in the same list.
abbrev pub IsInner : Entry → Entry → Type 0
IsInner r s =
    (length s.place < length r.place) ⊎
    ((p : List ℕ) × (j : ℕ) × (k : ℕ) × (r.place ≡ p ++ j ∷ []) × (s.place ≡ p ++ k ∷ []) × (j < k))

abbrev pub IsInnerToEach : Entry → List Entry → Type 0
IsInnerToEach r [] = Unit {0}
IsInnerToEach r (s ∷ rs) = IsInner r s × IsInnerToEach r rs

-- Each is inner to each that comes after it.
abbrev pub IsInnerFirst : List Entry → Type 0
IsInnerFirst [] = Unit {0}
IsInnerFirst (r ∷ rs) = IsInnerToEach r rs × IsInnerFirst rs

-- The trims that act on the leaf q, in order of place.
abbrev pub trims_of : List Item → Entry → List Entry
trims_of items q = filter (λ r. acts r q) (trims (live items))
