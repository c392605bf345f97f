-- The words of which the tables of members are made. That a member that is `null` is absent is this project's own, as
-- are the names of the faults.
use Rattle.std.specs.Prelude.{ℕ, List, Option, Some, None}
use Rattle.lot_types.specs.declared.fault.FaultCode.TheVariants.{Missing, Kind, Unsupported}
use Rattle.lot_json.specs.declared.tree.json.Json.{out-Json}
use Rattle.lot_json.specs.declared.tree.json.Json.TheOpen as tree
use Rattle.lot_json.specs.Lookup.{member}
use Rattle.lot_read.specs.Findings.{Findings, Reader, Row, under, good, bad, ◌⊛◌}

-- A member that has to be there.
unfoldable pub needed : {A : Type 0} → List ℕ → Reader A → Row A
needed name reader at m = elim (member name m) [
  | None ↦ bad Missing (under at name)
  | Some j ↦ reader (under at name) j
]

-- A member that has a default.
unfoldable pub optional : {A : Type 0} → List ℕ → Reader A → A → Row A
optional name reader default at m = elim (member name m) [ None ↦ good default | Some j ↦ reader (under at name) j ]

abbrev pub some : {A : Type 0} → Findings A → Findings (Option A)
some found = good (λ x. Some x) ⊛ found

-- A member that may be absent.
unfoldable pub maybe : {A : Type 0} → List ℕ → Reader A → Row (Option A)
maybe name reader at m = elim (member name m) [ None ↦ good None | Some j ↦ some (reader (under at name) j) ]

-- A member that is not built yet.
unfoldable pub unbuilt : List ℕ → Row (Unit {0})
unbuilt name at m = elim (member name m) [ None ↦ good tt | Some j ↦ bad Unsupported (under at name) ]

-- An object.
unfoldable pub object : {A : Type 0} → Row A → Reader A
object rows at j = elim (out-Json j) [ tree.Members m ↦ rows at m.pairs | _ ↦ bad Kind at ]
