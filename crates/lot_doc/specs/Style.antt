-- The styles of shape layers: the tables of their members. The members are those of the Lottie Specification 1.0,
-- "Fill", "Stroke" and "Stroke Dash"; their defaults, and the order of their faults, are this project's own.
use Rattle.std.specs.Prelude.{ℕ, ℤ, pos, ◌*◌, ◌^◌, List, [], Option, Some, None, bytes_eq, codes, if◌then◌else◌}
use Rattle.lot_types.specs.declared.dash.Dash.{Dash}
use Rattle.lot_types.specs.declared.dash.DashKind.{DashKind}
use Rattle.lot_types.specs.declared.dash.DashKind.TheVariants as dash
use Rattle.lot_types.specs.declared.fault.FaultCode.TheVariants as code
use Rattle.lot_types.specs.declared.item.Item.{Item}
use Rattle.lot_types.specs.declared.item.Item.TheVariants.{Fill, Stroke}
use Rattle.lot_types.specs.declared.prop.Prop.{Prop}
use Rattle.lot_types.specs.declared.slot.SlotKind.TheVariants as kind
use Rattle.lot_json.specs.declared.tree.json.Json.{out-Json}
use Rattle.lot_json.specs.declared.tree.json.Json.TheOpen as tree
use Rattle.lot_json.specs.declared.tree.pointer.Step.{Step}
use Rattle.lot_read.specs.Color.{color}
use Rattle.lot_read.specs.Findings.{Findings, Reader, Row, good, bad, ◌⊛◌}
use Rattle.lot_read.specs.Lists.{list}
use Rattle.lot_types.specs.Limits.{max_list_items}
use Rattle.lot_read.specs.Number.{any, number, scalar}
use Rattle.lot_read.specs.PropertyRows.{needed_property}
use Rattle.lot_read.specs.Rows.{needed, optional, object}
use Rattle.lot_read.specs.SlotNames.{Names}
use Rattle.lot_read.specs.Transform.{scalar_or, hundred_per_cent}
use Rattle.lot_read.specs.Whole.{whole}
use Rattle.lot_doc.specs.declared.stroke.CapAndJoin.{CapAndJoin}
use Rattle.lot_doc.specs.declared.stroke.Line.{Line}
use Rattle.lot_doc.specs.ItemHead.{head_rows}

-- The rule by which a point is inside: 1 nonzero, 2 even-odd.
abbrev pub fill_rule : Row ℕ
fill_rule at m = optional (codes "r") (whole 1 2) 1 at m

unfoldable pub fill_rows : Names → Row Item
fill_rows names at m =
    good (λ hidden c o r. Fill hidden c o r)
    ⊛ head_rows at m
    ⊛ needed_property kind.Color color names (codes "c") at m
    ⊛ scalar_or hundred_per_cent names (codes "o") at m
    ⊛ fill_rule at m

-- What a number of a dash pattern is, by its name.
abbrev pub dash_kind_named : List ℕ → Option DashKind
dash_kind_named name =
    if bytes_eq name (codes "d") then Some dash.Dash
    else if bytes_eq name (codes "g") then Some dash.Gap
    else if bytes_eq name (codes "o") then Some dash.Offset
    else None

abbrev pub dash_kind_or_fault : List Step → Option DashKind → Findings DashKind
dash_kind_or_fault at (Some n) = good n
dash_kind_or_fault at None = bad code.Value at

unfoldable pub dash_kind : Reader DashKind
dash_kind at j = elim (out-Json j) [ tree.Text t ↦ dash_kind_or_fault at (dash_kind_named t) | _ ↦ bad code.Kind at ]

unfoldable pub dash_rows : Names → Row Dash
dash_rows names at m =
    good (λ n v. record { n = n; v = v })
    ⊛ needed (codes "n") dash_kind at m
    ⊛ needed_property kind.Scalar scalar names (codes "v") at m

-- The miter limit of a stroke that names none: 4.
unfoldable pub default_miter : ℤ
default_miter = pos (4 * 10 ^ 6)

-- How a line ends and turns: the cap at its ends, the join at its corners, and the miter limit of a join.
unfoldable pub cap_and_join_rows : Row CapAndJoin
cap_and_join_rows at m =
    good (λ lc lj ml. record { lc = lc; lj = lj; ml = ml })
    ⊛ optional (codes "lc") (whole 1 3) 2 at m
    ⊛ optional (codes "lj") (whole 1 3) 2 at m
    ⊛ optional (codes "ml") (number any) default_miter at m

abbrev pub line_of : Prop ℤ → CapAndJoin → List Dash → Line
line_of w turns d = record { w = w; lc = turns.lc; lj = turns.lj; ml = turns.ml; d = d }

-- The members that all strokes have.
unfoldable pub line_rows : Names → Row Line
line_rows names at m =
    good (λ w turns d. line_of w turns d)
    ⊛ needed_property kind.Scalar scalar names (codes "w") at m
    ⊛ cap_and_join_rows at m
    ⊛ optional (codes "d") (list max_list_items (object (dash_rows names))) [] at m

unfoldable pub stroke_rows : Names → Row Item
stroke_rows names at m =
    good (λ hidden c o line. Stroke hidden c o line.w line.lc line.lj line.ml line.d)
    ⊛ head_rows at m
    ⊛ needed_property kind.Color color names (codes "c") at m
    ⊛ scalar_or hundred_per_cent names (codes "o") at m
    ⊛ line_rows names at m
