-- Features that are left out, after the members of the Lottie Specification 1.0. That a document which uses one of them
-- is refused is this project's own.
use Rattle.std.specs.Prelude.{ℤ, pos, false, List, [], ◌∷◌, codes, if◌then◌else◌}
use Rattle.std.specs.Ordering.{int_eq}
use Rattle.lot_types.specs.declared.fault.FaultCode.TheVariants.{Kind, Unsupported}
use Rattle.lot_json.specs.declared.tree.json.Json.{Json, out-Json}
use Rattle.lot_json.specs.declared.tree.json.Json.TheOpen as tree
use Rattle.lot_json.specs.declared.tree.pointer.Step.{Step}
use Rattle.lot_read.specs.Findings.{Findings, Reader, Row, good, bad, ◌also◌, ◌then◌}
use Rattle.lot_read.specs.Flag.{unset}
use Rattle.lot_read.specs.Number.{any, number}
use Rattle.lot_read.specs.Rows.{optional}

-- The blend mode that is not left out, which is 0.
abbrev pub zero_or_fault : List Step → ℤ → Findings (Unit {0})
zero_or_fault at z = if int_eq z (pos 0) then good tt else bad Unsupported at

unfoldable pub normal_blend : Reader (Unit {0})
normal_blend at j = number any at j then zero_or_fault at

abbrev pub without_items : List Step → List Json → Findings (Unit {0})
without_items at [] = good tt
without_items at (j ∷ js) = bad Unsupported at

-- A list of a feature that is left out: it has no items.
unfoldable pub no_items : Reader (Unit {0})
no_items at j = elim (out-Json j) [ tree.Items js ↦ without_items at js | _ ↦ bad Kind at ]

-- The features of a layer that are left out: three dimensions, auto-orient, blend modes, effects and layer styles.
unfoldable pub left_out : Row (Unit {0})
left_out at m =
    good tt
    also optional (codes "ddd") unset false at m
    also optional (codes "ao") unset false at m
    also optional (codes "bm") normal_blend tt at m
    also optional (codes "ef") no_items tt at m
    also optional (codes "sy") no_items tt at m

-- An asset: none is supported.
unfoldable pub asset_rows : Row (Unit {0})
asset_rows at m = bad Unsupported at
