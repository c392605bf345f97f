-- The handles of keyframes, after the Lottie Specification 1.0, "Keyframe Easing".
use Rattle.std.specs.Prelude.{ℤ, List, [], ◌∷◌, Option, Some, None, codes}
use Rattle.lot_types.specs.declared.fault.FaultCode.TheVariants.{Count}
use Rattle.lot_types.specs.Handles.{Handles, nearest_handles}
use Rattle.lot_json.specs.declared.tree.json.Json.{out-Json}
use Rattle.lot_json.specs.declared.tree.json.Json.TheOpen as tree
use Rattle.lot_json.specs.declared.tree.pointer.Step.{Step}
use Rattle.lot_read.specs.Findings.{Findings, Reader, Row, good, bad, ◌⊛◌, ◌then◌}
use Rattle.lot_read.specs.Lists.{list}
use Rattle.lot_types.specs.Limits.{max_list_items}
use Rattle.lot_read.specs.Number.{any, number}
use Rattle.lot_read.specs.Rows.{needed}

-- A number for each of three components: where there are fewer, the last counts for the rest.
abbrev pub three_of : List ℤ → Option (List ℤ)
three_of [] = None
three_of (x ∷ []) = Some (x ∷ x ∷ x ∷ [])
three_of (x ∷ y ∷ []) = Some (x ∷ y ∷ y ∷ [])
three_of (x ∷ y ∷ z ∷ more) = Some (x ∷ y ∷ z ∷ [])

abbrev pub three_or_refused : List Step → Option (List ℤ) → Findings (List ℤ)
three_or_refused at (Some xs) = good xs
three_or_refused at None = bad Count at

abbrev pub for_each_component : ℤ → List ℤ
for_each_component x = x ∷ x ∷ x ∷ []

-- The coordinates of the handles of three components: a number for all, or a list that is read whole.
unfoldable pub coordinates : Reader (List ℤ)
coordinates at j = elim (out-Json j) [
  | tree.Items js ↦ list max_list_items (number any) at j then λ xs. three_or_refused at (three_of xs)
  | _ ↦ good for_each_component ⊛ number any at j
]

-- Handles. Each coordinate is limited to its range.
unfoldable pub handle_rows : Row Handles
handle_rows at m =
    good (λ x y. nearest_handles x y)
    ⊛ needed (codes "x") coordinates at m
    ⊛ needed (codes "y") coordinates at m
