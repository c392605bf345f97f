-- What the reader of documents answers.
use Rattle.std.specs.Prelude.{◌≡◌, [], Some, Result, Ok, Err}
use Rattle.lot_types.specs.declared.doc.Doc.{Doc}
use Rattle.lot_types.specs.declared.read.Read.{Read}
use Rattle.lot_types.specs.declared.refusal.Refusal.{Refusal}
use Rattle.lot_types.specs.Refusals.{Fails}
use Rattle.lot_read.specs.Findings.{Findings}

-- The document of a tree without faults, with its uses of slots.
pub record IsReadOf (r : Read) (found : Findings Doc) : Type 0 where
  pub none : found.faults ≡ []
  pub value : found.value ≡ Some r.doc
  pub uses : r.uses ≡ found.uses

-- The document, or the first fault.
abbrev pub IsOutcome : Result Read Refusal → Findings Doc → Type 0
IsOutcome (Ok r) found = IsReadOf r found
IsOutcome (Err e) found = Fails e found.faults
