-- What the tables of all items of shape layers begin with: the type, after the Lottie Specification 1.0, "Shapes", and
-- the members that each item has. Which of them are read, and the order of their faults, is this project's own.
use Rattle.std.specs.Prelude.{ℕ, Bool, false, List, Option, Some, None, bytes_eq, codes, if◌then◌else◌}
use Rattle.lot_types.specs.declared.fault.FaultCode.TheVariants as code
use Rattle.lot_json.specs.declared.tree.json.Json.{out-Json}
use Rattle.lot_json.specs.declared.tree.json.Json.TheOpen as tree
use Rattle.lot_json.specs.declared.tree.pointer.Step.{Step}
use Rattle.lot_read.specs.Findings.{Findings, Reader, Row, good, bad, ◌⊛◌, ◌also◌}
use Rattle.lot_read.specs.Flag.{flag}
use Rattle.lot_read.specs.Rows.{optional}
use Rattle.lot_doc.specs.declared.item_type.ItemType.{ItemType}
use Rattle.lot_doc.specs.declared.item_type.ItemType.TheVariants.{Group, Rectangle, Ellipse, Polystar, Path, Fill, Stroke, GradientFill, GradientStroke, Trim, Transform}
use Rattle.lot_doc.specs.Feature.{normal_blend}

-- The type of this name. Items of other names are left out; rounded corners, `rd`, are not built yet.
abbrev pub type_named : List ℕ → Option ItemType
type_named name =
    if bytes_eq name (codes "gr") then Some Group
    else if bytes_eq name (codes "rc") then Some Rectangle
    else if bytes_eq name (codes "el") then Some Ellipse
    else if bytes_eq name (codes "sr") then Some Polystar
    else if bytes_eq name (codes "sh") then Some Path
    else if bytes_eq name (codes "fl") then Some Fill
    else if bytes_eq name (codes "st") then Some Stroke
    else if bytes_eq name (codes "gf") then Some GradientFill
    else if bytes_eq name (codes "gs") then Some GradientStroke
    else if bytes_eq name (codes "tm") then Some Trim
    else if bytes_eq name (codes "tr") then Some Transform
    else None

abbrev pub item_type_or_fault : List Step → Option ItemType → Findings ItemType
item_type_or_fault at (Some ty) = good ty
item_type_or_fault at None = bad code.Unsupported at

unfoldable pub item_type : Reader ItemType
item_type at j = elim (out-Json j) [ tree.Text t ↦ item_type_or_fault at (type_named t) | _ ↦ bad code.Kind at ]

-- Whether the item is hidden. Its blend mode is the normal one.
unfoldable pub head_rows : Row Bool
head_rows at m =
    good (λ hidden. hidden)
    ⊛ optional (codes "hd") flag false at m
    also optional (codes "bm") normal_blend tt at m
