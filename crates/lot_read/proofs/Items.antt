-- Up to where the items of a list are read.
use Rattle.std.proofs.Common.{◌≡◌, ℕ, List, ◌++◌, Some, drop}
use Rattle.lot_types.specs.declared.slot.Use.{Use}
use Rattle.lot_json.specs.declared.tree.json.Json.{Json}
use Rattle.lot_json.specs.declared.tree.pointer.Step.{Step}
use Rattle.lot_read.specs.Findings.{Reader, ◌>>=◌}
use Rattle.lot_read.specs.Lists.{each}

-- The first i items are read without fault, with these values and uses; the items from i on have the rest of the
-- faults, values and uses.
pub record IsRead {A : Type 0} (reader : Reader A) (at now : List Step) (old new : List Use) (js : List Json) (i : ℕ) (made : List A) : Type 0 where
  pub faults : (each reader at i (drop i js)).faults ≡ (each reader at 0 js).faults
  pub value : ((each reader at i (drop i js)).value >>= λ xs. Some (made ++ xs)) ≡ (each reader at 0 js).value
  pub uses : new ++ (each reader at i (drop i js)).uses ≡ old ++ (each reader at 0 js).uses
  pub same : now ≡ at
