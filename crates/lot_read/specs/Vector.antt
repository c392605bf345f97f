-- Vectors, after the Lottie Specification 1.0, "Vector".
use Rattle.std.specs.Prelude.{List, [], ◌∷◌}
use Rattle.lot_types.specs.declared.fault.FaultCode.TheVariants.{Kind, Count}
use Rattle.lot_types.specs.declared.point.Point.{Point}
use Rattle.lot_json.specs.declared.tree.json.Json.{Json, out-Json}
use Rattle.lot_json.specs.declared.tree.json.Json.TheOpen as tree
use Rattle.lot_json.specs.declared.tree.pointer.Step.{Step}
use Rattle.lot_read.specs.Findings.{Findings, Reader, item, good, bad, ◌⊛◌}
use Rattle.lot_read.specs.Number.{any, number}

abbrev pub two_numbers : List Step → List Json → Findings Point
two_numbers at (x ∷ y ∷ more) =
    good (λ x y. record { x = x; y = y })
    ⊛ number any (item at 0) x
    ⊛ number any (item at 1) y
two_numbers at (x ∷ []) = bad Count at
two_numbers at [] = bad Count at

-- A vector: a list of at least two numbers, of which the first two are read.
unfoldable pub vector : Reader Point
vector at j = elim (out-Json j) [ tree.Items js ↦ two_numbers at js | _ ↦ bad Kind at ]
