-- A tree without faults has a value: a table in which a row can leave out both a fault and a value would give a
-- document no answer. Each word of the tables keeps this, by the lemmas of proofs/Sound.antt.
use Rattle.std.specs.Prelude.{◌≡◌, List, [], IsSome}
use Rattle.lot_json.specs.declared.tree.json.Json.{Json}
use Rattle.lot_json.specs.declared.tree.pointer.Step.{Step}
use Rattle.lot_read.specs.Findings.{Findings, Reader, Row, Pairs}

pub record IsSound {A : Type 0} (found : Findings A) : Type 0 where
  pub some : found.faults ≡ [] → IsSome found.value

-- The same of whatever a reader reads, and of whatever the rows of a table read.
abbrev pub ReadsSoundly : {A : Type 0} → Reader A → Type 0
ReadsSoundly reader = (at : List Step) (j : Json) → IsSound (reader at j)

abbrev pub RowsAreSound : {A : Type 0} → Row A → Type 0
RowsAreSound row = (at : List Step) (m : Pairs) → IsSound (row at m)
