-- Lists of values.
use Rattle.std.specs.Prelude.{ℕ, ◌+◌, List, [], ◌∷◌, Option, Some, None, length, nat_lt, if◌then◌else◌}
use Rattle.lot_types.specs.declared.fault.FaultCode.TheVariants.{Kind, Count, TooMany}
use Rattle.lot_json.specs.declared.tree.json.Json.{Json, out-Json}
use Rattle.lot_json.specs.declared.tree.json.Json.TheOpen as tree
use Rattle.lot_json.specs.declared.tree.pointer.Step.{Step}
use Rattle.lot_read.specs.Findings.{Findings, Reader, item, good, bad, ◌⊛◌}

-- Every item in order, the first of which has the index i.
unfoldable pub each : {A : Type 0} → Reader A → List Step → ℕ → List Json → Findings (List A)
each reader at i [] = good []
each reader at i (j ∷ js) = good (λ x xs. x ∷ xs) ⊛ reader (item at i) j ⊛ each reader at (i + 1) js

abbrev pub at_most : ℕ → List Step → List Json → Findings (Unit {0})
at_most max at js = if nat_lt max (length js) then bad TooMany at else good tt

-- A list that is read whole, of at most `max` items.
unfoldable pub list : {A : Type 0} → ℕ → Reader A → Reader (List A)
list max reader at j = elim (out-Json j) [
  | tree.Items js ↦ good (λ _ xs. xs) ⊛ at_most max at js ⊛ each reader at 0 js
  | _ ↦ bad Kind at
]

abbrev pub first_item : {A : Type 0} → Reader A → List Step → List Json → Findings A
first_item reader at [] = bad Count at
first_item reader at (j ∷ js) = reader (item at 0) j

-- A value, or a list whose first item is the value.
unfoldable pub value_or_first : {A : Type 0} → Reader A → Reader A
value_or_first reader at j = elim (out-Json j) [ tree.Items js ↦ first_item reader at js | _ ↦ reader at j ]

-- How many items a value has, where it is a list.
unfoldable pub length_of : Json → Option ℕ
length_of j = elim (out-Json j) [ tree.Items js ↦ Some (length js) | _ ↦ None ]
