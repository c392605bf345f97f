-- Colors, after the Lottie Specification 1.0, "Color".
use Rattle.std.specs.Prelude.{ℤ, pos, ◌^◌, int_lt, List, [], ◌∷◌, if◌then◌else◌}
use Rattle.lot_types.specs.declared.fault.FaultCode.TheVariants.{Kind, Count}
use Rattle.lot_types.specs.declared.color.Color.{Color}
use Rattle.lot_json.specs.declared.tree.json.Json.{Json, out-Json}
use Rattle.lot_json.specs.declared.tree.json.Json.TheOpen as tree
use Rattle.lot_json.specs.declared.tree.pointer.Step.{Step}
use Rattle.lot_read.specs.Findings.{Findings, Reader, item, good, bad, ◌⊛◌}
use Rattle.lot_read.specs.Number.{any, number}

-- One, in millionths.
abbrev pub one : ℤ
one = pos (10 ^ 6)

-- The nearest number to z from 0 to 1.
abbrev pub part : ℤ → ℤ
part z = if int_lt z (pos 0) then pos 0 else if int_lt one z then one else z

abbrev pub three_parts : List Step → List Json → Findings Color
three_parts at (r ∷ g ∷ b ∷ more) =
    good (λ r g b. record { r = part r; g = part g; b = part b })
    ⊛ number any (item at 0) r
    ⊛ number any (item at 1) g
    ⊛ number any (item at 2) b
three_parts at (r ∷ g ∷ []) = bad Count at
three_parts at (r ∷ []) = bad Count at
three_parts at [] = bad Count at

-- A color: a list of at least three numbers, of which the first three are read and limited to 0 to 1.
unfoldable pub color : Reader Color
color at j = elim (out-Json j) [ tree.Items js ↦ three_parts at js | _ ↦ bad Kind at ]
