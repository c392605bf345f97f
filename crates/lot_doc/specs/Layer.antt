-- The table of the members of a layer. The members are those of the Lottie Specification 1.0, "Layers"; which of them
-- are read, and the order of their faults, is this project's own.
use Rattle.std.specs.Prelude.{◌==◌, ℤ, pos, ◌*◌, ◌%◌, ◌^◌, Bool, false, unsigned_abs, List, [], None, codes, if◌then◌else◌}
use Rattle.std.specs.Ordering.{int_eq}
use Rattle.lot_types.specs.declared.fault.FaultCode.TheVariants as code
use Rattle.lot_types.specs.declared.layer.Layer.{Layer}
use Rattle.lot_types.specs.declared.layer.LayerKind.{LayerKind}
use Rattle.lot_types.specs.declared.layer.LayerKind.TheVariants as kind
use Rattle.lot_types.specs.declared.matte.Matte.TheVariants as matte
use Rattle.lot_json.specs.declared.tree.pointer.Step.{Step}
use Rattle.lot_read.specs.Findings.{Findings, Reader, Row, good, bad, ◌⊛◌, ◌also◌, ◌then◌}
use Rattle.lot_read.specs.Flag.{flag}
use Rattle.lot_read.specs.Lists.{list}
use Rattle.lot_types.specs.Limits.{max_list_items}
use Rattle.lot_read.specs.Number.{any, not_below_zero, number}
use Rattle.lot_read.specs.Rows.{needed, optional, maybe, unbuilt}
use Rattle.lot_read.specs.SlotNames.{Names}
use Rattle.lot_read.specs.Transform.{transform}
use Rattle.lot_doc.specs.declared.layer_type.LayerType.{LayerType}
use Rattle.lot_doc.specs.declared.layer_type.LayerType.TheVariants.{Solid, Null, Shape}
use Rattle.lot_doc.specs.declared.layer.Header.{Header}
use Rattle.lot_doc.specs.declared.layer.Links.{Links}
use Rattle.lot_doc.specs.declared.layer.Content.{Content}
use Rattle.lot_doc.specs.Color.{hex_color}
use Rattle.lot_doc.specs.Feature.{left_out}
use Rattle.lot_doc.specs.Item.{shape_item}

-- The type of a number of millionths: 1 is a solid layer, 3 a null layer, and 4 a shape layer.
abbrev pub layer_type_or_fault : List Step → ℤ → Findings LayerType
layer_type_or_fault at z =
    if int_eq z (pos (10 ^ 6)) then good Solid
    else if int_eq z (pos (3 * 10 ^ 6)) then good Null
    else if int_eq z (pos (4 * 10 ^ 6)) then good Shape
    else if unsigned_abs z % 10 ^ 6 == 0 then bad code.Unsupported at
    else bad code.Value at

-- The type of a layer: a whole number.
unfoldable pub layer_type : Reader LayerType
layer_type at j = number any at j then layer_type_or_fault at

-- The number of a layer, and that of its parent.
unfoldable pub link_rows : Row Links
link_rows at m =
    good (λ ind parent. record { ind = ind; parent = parent })
    ⊛ maybe (codes "ind") (number any) at m
    ⊛ maybe (codes "parent") (number any) at m

-- The members of mattes, which are not built yet.
unfoldable pub matte_rows : Row (Unit {0})
matte_rows at m = good tt also unbuilt (codes "td") at m also unbuilt (codes "tt") at m also unbuilt (codes "tp") at m

abbrev pub header_of : Bool → Links → ℤ → ℤ → Header
header_of hidden links ip op =
    record { hidden = hidden; ind = links.ind; parent = links.parent; ip = ip; op = op }

-- The rows of a layer before its transform.
unfoldable pub header_rows : Row Header
header_rows at m =
    good (λ hidden links ip op. header_of hidden links ip op)
    also left_out at m
    ⊛ optional (codes "hd") flag false at m
    ⊛ link_rows at m
    ⊛ needed (codes "ip") (number any) at m
    ⊛ needed (codes "op") (number any) at m
    also matte_rows at m

-- The rectangle of a solid layer.
unfoldable pub solid_rows : Row LayerKind
solid_rows at m =
    good (λ w h rgb. kind.Solid w h rgb)
    ⊛ needed (codes "sw") (number not_below_zero) at m
    ⊛ needed (codes "sh") (number not_below_zero) at m
    ⊛ needed (codes "sc") hex_color at m

-- The items of a shape layer.
unfoldable pub shape_rows : Names → Row LayerKind
shape_rows names at m =
    good (λ items. kind.Shape items) ⊛ needed (codes "shapes") (list max_list_items (shape_item names)) at m

-- The rows of each type. A null layer has none.
unfoldable pub type_rows : Names → LayerType → Row LayerKind
type_rows names Solid at m = solid_rows at m
type_rows names Null at m = good kind.Null
type_rows names Shape at m = shape_rows names at m

-- The rows of a layer after its transform.
unfoldable pub kind_rows : Names → LayerType → Row LayerKind
kind_rows names ty at m = good (λ shown. shown) also unbuilt (codes "masksProperties") at m ⊛ type_rows names ty at m

-- The transform of a layer, and what it shows.
unfoldable pub content_rows : Names → LayerType → Row Content
content_rows names ty at m =
    good (λ ks shown. record { ks = ks; kind = shown })
    ⊛ needed (codes "ks") (transform names) at m
    ⊛ kind_rows names ty at m

-- A layer without mattes and masks.
abbrev pub layer_of : Header → Content → Layer
layer_of header content = record {
  kind = content.kind;
  ip = header.ip;
  op = header.op;
  hidden = header.hidden;
  td = false;
  ind = header.ind;
  parent = header.parent;
  matte = matte.No;
  tp = None;
  ks = content.ks;
  masks = [];
}

-- The members of a layer after its type.
unfoldable pub layer_rows : Names → LayerType → Row Layer
layer_rows names ty at m =
    good (λ header content. layer_of header content) ⊛ header_rows at m ⊛ content_rows names ty at m

-- A layer. After a fault of its type nothing more of it is read.
unfoldable pub typed_layer_rows : Names → Row Layer
typed_layer_rows names at m = needed (codes "ty") layer_type at m then λ ty. layer_rows names ty at m
