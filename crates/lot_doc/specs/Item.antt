-- The items of shape layers: the tables of their members. The members are those of the Lottie Specification 1.0,
-- "Shapes"; which of them are read, and the order of their faults, is this project's own.
use Rattle.std.specs.Prelude.{ℕ, zero, suc, codes}
use Rattle.lot_types.specs.declared.fault.FaultCode.TheVariants.{Kind}
use Rattle.lot_types.specs.declared.item.Item.{Item}
use Rattle.lot_types.specs.declared.item.Item.TheVariants as made
use Rattle.lot_json.specs.declared.tree.json.Json.{size-Json}
use Rattle.lot_read.specs.Findings.{Reader, Row, good, bad, ◌⊛◌, ◌then◌}
use Rattle.lot_read.specs.Lists.{list}
use Rattle.lot_types.specs.Limits.{max_list_items}
use Rattle.lot_read.specs.Rows.{needed, object}
use Rattle.lot_read.specs.SlotNames.{Names}
use Rattle.lot_read.specs.Transform.{transform_rows}
use Rattle.lot_doc.specs.declared.item_type.ItemType.{ItemType}
use Rattle.lot_doc.specs.declared.item_type.ItemType.TheVariants as type
use Rattle.lot_doc.specs.Gradient.{gradient_fill_rows, gradient_stroke_rows}
use Rattle.lot_doc.specs.ItemHead.{item_type, head_rows}
use Rattle.lot_doc.specs.Shape.{rectangle_rows, ellipse_rows, polystar_rows, path_rows}
use Rattle.lot_doc.specs.Style.{fill_rows, stroke_rows}
use Rattle.lot_doc.specs.Trim.{trim_rows}

-- A transform, whose members stand in the item itself.
unfoldable pub transform_item_rows : Names → Row Item
transform_item_rows names at m =
    good (λ hidden ks. made.Place hidden ks) ⊛ head_rows at m ⊛ transform_rows names at m

-- A group, whose items are read by the given reader.
unfoldable pub group_rows : Reader Item → Row Item
group_rows inner at m =
    good (λ hidden it. made.Group hidden it)
    ⊛ head_rows at m
    ⊛ needed (codes "it") (list max_list_items inner) at m

-- The rows of each type.
unfoldable pub typed_rows : Names → Reader Item → ItemType → Row Item
typed_rows names inner type.Group at m = group_rows inner at m
typed_rows names inner type.Rectangle at m = rectangle_rows names at m
typed_rows names inner type.Ellipse at m = ellipse_rows names at m
typed_rows names inner type.Polystar at m = polystar_rows names at m
typed_rows names inner type.Path at m = path_rows names at m
typed_rows names inner type.Fill at m = fill_rows names at m
typed_rows names inner type.Stroke at m = stroke_rows names at m
typed_rows names inner type.GradientFill at m = gradient_fill_rows names at m
typed_rows names inner type.GradientStroke at m = gradient_stroke_rows names at m
typed_rows names inner type.Trim at m = trim_rows names at m
typed_rows names inner type.Transform at m = transform_item_rows names at m

-- An item. After a fault of its type nothing more of it is read.
unfoldable pub item_rows : Names → Reader Item → Row Item
item_rows names inner at m = needed (codes "ty") item_type at m then λ ty. typed_rows names inner ty at m

-- An item in a tree of less than n levels.
unfoldable pub item_within : Names → ℕ → Reader Item
item_within names zero at j = bad Kind at
item_within names (suc n) at j = object (item_rows names (item_within names n)) at j

-- An item: no tree has more levels than its own number.
unfoldable pub shape_item : Names → Reader Item
shape_item names at j = item_within names (suc (size-Json j)) at j
