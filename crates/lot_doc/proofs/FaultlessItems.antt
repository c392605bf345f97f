-- Each table of items keeps that a tree without faults has a value.
use Rattle.std.proofs.Common.{◌==◌, ℕ, zero, suc, pos, Bool, false, List, [], Option, Some, None, codes}
use Rattle.lot_types.specs.declared.dash.DashKind.{DashKind}
use Rattle.lot_types.specs.declared.fault.FaultCode.TheVariants as code
use Rattle.lot_types.specs.declared.item.Item.{Item}
use Rattle.lot_types.specs.declared.slot.SlotKind.TheVariants as kind
use Rattle.lot_json.specs.declared.tree.json.Json.{out-Json, size-Json}
use Rattle.lot_json.specs.declared.tree.json.Json.TheOpen as tree
use Rattle.lot_json.specs.declared.tree.pointer.Step.{Step}
use Rattle.lot_read.specs.Findings.{Findings, Reader, bad}
use Rattle.lot_types.specs.Limits.{max_list_items}
use Rattle.lot_read.specs.Number.{any}
use Rattle.lot_read.specs.SlotNames.{Names}
use Rattle.lot_read.specs.Sound.{IsSound, ReadsSoundly, RowsAreSound}
use Rattle.lot_read.specs.Transform.{hundred_per_cent}
use Rattle.lot_read.proofs.Sound.{good_sound, bad_sound, if_sound, row_sound, also_sound, then_sound, needed_sound, optional_sound, maybe_sound, object_sound, list_sound}
use Rattle.lot_read.proofs.SoundRows.{needed_property_sound}
use Rattle.lot_read.proofs.SoundTransform.{scalar_or_sound, transform_rows_sound}
use Rattle.lot_read.proofs.SoundValues.{number_sound, flag_sound, whole_sound, scalar_sound, vector_sound, color_sound, bezier_sound, gradient_sound}
use Rattle.lot_doc.specs.declared.item_type.ItemType.{ItemType}
use Rattle.lot_doc.specs.declared.item_type.ItemType.TheVariants as type
use Rattle.lot_doc.specs.Gradient.{max_stops, colors_rows, stops_rows, needed_stops, geometry_rows, focus_rows, base_gradient_rows, gradient_fill_rows, gradient_stroke_rows}
use Rattle.lot_doc.specs.Item.{transform_item_rows, group_rows, typed_rows, item_rows, item_within, shape_item}
use Rattle.lot_doc.specs.ItemHead.{type_named, item_type_or_fault, item_type, head_rows}
use Rattle.lot_doc.specs.Shape.{rectangle_rows, ellipse_rows, spokes_rows, inner_radius, radii_rows, star_kind, polystar_rows, path_rows}
use Rattle.lot_doc.specs.Style.{fill_rule, fill_rows, dash_kind_named, dash_kind_or_fault, dash_kind, dash_rows, default_miter, cap_and_join_rows, line_rows, stroke_rows}
use Rattle.lot_doc.specs.Trim.{trim_rows}
use Rattle.lot_doc.proofs.FaultlessFeatures.{normal_blend_sound}

type_or_fault_sound : (at : List Step) (ty : Option ItemType) → IsSound (item_type_or_fault at ty)
type_or_fault_sound at (Some ty) = good_sound ty
type_or_fault_sound at None = bad_sound code.Unsupported at

item_type_sound : ReadsSoundly item_type
unfolding item_type
item_type_sound at j =
    elim (out-Json j) as (λ v. let found : Findings ItemType = elim v [ tree.Text t ↦ item_type_or_fault at (type_named t) | _ ↦ bad code.Kind at ] in IsSound found) [
      | tree.Text t ↦ type_or_fault_sound at (type_named t)
      | _ ↦ bad_sound code.Kind at
    ]

head_sound : RowsAreSound head_rows
unfolding head_rows
head_sound at m =
    also_sound (row_sound (good_sound (λ (hidden : Bool). hidden)) (optional_sound (codes "hd") false flag_sound at m))
    (optional_sound (codes "bm") tt normal_blend_sound at m)

-- Shapes.
rectangle_sound : (names : Names) → RowsAreSound (rectangle_rows names)
unfolding rectangle_rows
rectangle_sound names at m =
    row_sound (row_sound (row_sound (row_sound (row_sound (good_sound _)
    (head_sound at m))
    (needed_property_sound kind.Vector vector_sound names (codes "p") at m))
    (needed_property_sound kind.Vector vector_sound names (codes "s") at m))
    (scalar_or_sound (pos 0) names (codes "r") at m))
    (maybe_sound (codes "d") (number_sound any) at m)

ellipse_sound : (names : Names) → RowsAreSound (ellipse_rows names)
unfolding ellipse_rows
ellipse_sound names at m =
    row_sound (row_sound (row_sound (row_sound (good_sound _)
    (head_sound at m))
    (needed_property_sound kind.Vector vector_sound names (codes "p") at m))
    (needed_property_sound kind.Vector vector_sound names (codes "s") at m))
    (maybe_sound (codes "d") (number_sound any) at m)

spokes_sound : (names : Names) → RowsAreSound (spokes_rows names)
unfolding spokes_rows
spokes_sound names at m =
    row_sound (row_sound (row_sound (good_sound _)
    (needed_property_sound kind.Scalar scalar_sound names (codes "pt") at m))
    (needed_property_sound kind.Vector vector_sound names (codes "p") at m))
    (scalar_or_sound (pos 0) names (codes "r") at m)

inner_radius_sound : (names : Names) (sy : Option ℕ) → RowsAreSound (inner_radius names sy)
inner_radius_sound names (Some sy) at m =
    if_sound (sy == 1) (needed_property_sound kind.Scalar scalar_sound names (codes "ir") at m)
    (scalar_or_sound (pos 0) names (codes "ir") at m)
inner_radius_sound names None at m = scalar_or_sound (pos 0) names (codes "ir") at m

radii_sound : (names : Names) (sy : Option ℕ) → RowsAreSound (radii_rows names sy)
unfolding radii_rows
radii_sound names sy at m =
    row_sound (row_sound (row_sound (row_sound (good_sound _)
    (needed_property_sound kind.Scalar scalar_sound names (codes "or") at m))
    (scalar_or_sound (pos 0) names (codes "os") at m))
    (inner_radius_sound names sy at m))
    (scalar_or_sound (pos 0) names (codes "is") at m)

polystar_sound : (names : Names) → RowsAreSound (polystar_rows names)
unfolding polystar_rows
polystar_sound names at m =
    row_sound (row_sound (row_sound (row_sound (row_sound (good_sound _)
    (head_sound at m))
    (needed_sound (codes "sy") (whole_sound 1 2) at m))
    (spokes_sound names at m))
    (radii_sound names (star_kind at m).value at m))
    (maybe_sound (codes "d") (number_sound any) at m)

path_sound : (names : Names) → RowsAreSound (path_rows names)
unfolding path_rows
path_sound names at m =
    row_sound (row_sound (row_sound (good_sound _)
    (head_sound at m))
    (needed_property_sound kind.Bezier bezier_sound names (codes "ks") at m))
    (maybe_sound (codes "d") (number_sound any) at m)

-- Styles.
fill_rule_sound : RowsAreSound fill_rule
fill_rule_sound at m = optional_sound (codes "r") 1 (whole_sound 1 2) at m

fill_sound : (names : Names) → RowsAreSound (fill_rows names)
unfolding fill_rows
fill_sound names at m =
    row_sound (row_sound (row_sound (row_sound (good_sound _)
    (head_sound at m))
    (needed_property_sound kind.Color color_sound names (codes "c") at m))
    (scalar_or_sound hundred_per_cent names (codes "o") at m))
    (fill_rule_sound at m)

dash_kind_or_fault_sound : (at : List Step) (n : Option DashKind) → IsSound (dash_kind_or_fault at n)
dash_kind_or_fault_sound at (Some n) = good_sound n
dash_kind_or_fault_sound at None = bad_sound code.Value at

dash_kind_sound : ReadsSoundly dash_kind
unfolding dash_kind
dash_kind_sound at j =
    elim (out-Json j) as (λ v. let found : Findings DashKind = elim v [ tree.Text t ↦ dash_kind_or_fault at (dash_kind_named t) | _ ↦ bad code.Kind at ] in IsSound found) [
      | tree.Text t ↦ dash_kind_or_fault_sound at (dash_kind_named t)
      | _ ↦ bad_sound code.Kind at
    ]

dash_sound : (names : Names) → RowsAreSound (dash_rows names)
unfolding dash_rows
dash_sound names at m =
    row_sound (row_sound (good_sound _)
    (needed_sound (codes "n") dash_kind_sound at m))
    (needed_property_sound kind.Scalar scalar_sound names (codes "v") at m)

cap_and_join_sound : RowsAreSound cap_and_join_rows
unfolding cap_and_join_rows
cap_and_join_sound at m =
    row_sound (row_sound (row_sound (good_sound _)
    (optional_sound (codes "lc") 2 (whole_sound 1 3) at m))
    (optional_sound (codes "lj") 2 (whole_sound 1 3) at m))
    (optional_sound (codes "ml") default_miter (number_sound any) at m)

line_sound : (names : Names) → RowsAreSound (line_rows names)
unfolding line_rows
line_sound names at m =
    row_sound (row_sound (row_sound (good_sound _)
    (needed_property_sound kind.Scalar scalar_sound names (codes "w") at m))
    (cap_and_join_sound at m))
    (optional_sound (codes "d") [] (list_sound max_list_items (object_sound (dash_sound names))) at m)

stroke_sound : (names : Names) → RowsAreSound (stroke_rows names)
unfolding stroke_rows
stroke_sound names at m =
    row_sound (row_sound (row_sound (row_sound (good_sound _)
    (head_sound at m))
    (needed_property_sound kind.Color color_sound names (codes "c") at m))
    (scalar_or_sound hundred_per_cent names (codes "o") at m))
    (line_sound names at m)

-- Gradients.
colors_sound : (names : Names) (p : ℕ) → RowsAreSound (colors_rows names p)
unfolding colors_rows
colors_sound names p at m =
    row_sound (good_sound _) (needed_property_sound (kind.Gradient p) (gradient_sound p) names (codes "k") at m)

stops_sound : (names : Names) → RowsAreSound (stops_rows names)
unfolding stops_rows
stops_sound names at m =
    then_sound _ (needed_sound (codes "p") (whole_sound 1 max_stops) at m) (λ p. colors_sound names p at m)

needed_stops_sound : (names : Names) → RowsAreSound (needed_stops names)
unfolding needed_stops
needed_stops_sound names at m = needed_sound (codes "g") (object_sound (stops_sound names)) at m

geometry_sound : (names : Names) → RowsAreSound (geometry_rows names)
unfolding geometry_rows
geometry_sound names at m =
    row_sound (row_sound (row_sound (good_sound _)
    (needed_property_sound kind.Vector vector_sound names (codes "s") at m))
    (needed_property_sound kind.Vector vector_sound names (codes "e") at m))
    (optional_sound (codes "t") 1 (whole_sound 1 2) at m)

focus_sound : (names : Names) → RowsAreSound (focus_rows names)
unfolding focus_rows
focus_sound names at m =
    row_sound (row_sound (good_sound _)
    (scalar_or_sound (pos 0) names (codes "h") at m))
    (scalar_or_sound (pos 0) names (codes "a") at m)

base_gradient_sound : (names : Names) → RowsAreSound (base_gradient_rows names)
unfolding base_gradient_rows
base_gradient_sound names at m =
    row_sound (row_sound (row_sound (row_sound (good_sound _)
    (scalar_or_sound hundred_per_cent names (codes "o") at m))
    (geometry_sound names at m))
    (needed_stops_sound names at m))
    (focus_sound names at m)

gradient_fill_sound : (names : Names) → RowsAreSound (gradient_fill_rows names)
unfolding gradient_fill_rows
gradient_fill_sound names at m =
    row_sound (row_sound (row_sound (good_sound _)
    (head_sound at m))
    (base_gradient_sound names at m))
    (fill_rule_sound at m)

gradient_stroke_sound : (names : Names) → RowsAreSound (gradient_stroke_rows names)
unfolding gradient_stroke_rows
gradient_stroke_sound names at m =
    row_sound (row_sound (row_sound (good_sound _)
    (head_sound at m))
    (base_gradient_sound names at m))
    (line_sound names at m)

-- Trims.
trim_sound : (names : Names) → RowsAreSound (trim_rows names)
unfolding trim_rows
trim_sound names at m =
    row_sound (row_sound (row_sound (row_sound (row_sound (good_sound _)
    (head_sound at m))
    (scalar_or_sound (pos 0) names (codes "s") at m))
    (scalar_or_sound hundred_per_cent names (codes "e") at m))
    (scalar_or_sound (pos 0) names (codes "o") at m))
    (optional_sound (codes "m") 1 (whole_sound 1 2) at m)

-- Items.
transform_item_sound : (names : Names) → RowsAreSound (transform_item_rows names)
unfolding transform_item_rows
transform_item_sound names at m =
    row_sound (row_sound (good_sound _) (head_sound at m)) (transform_rows_sound names at m)

group_sound : {inner : Reader Item} → ReadsSoundly inner → RowsAreSound (group_rows inner)
unfolding group_rows
group_sound sound at m =
    row_sound (row_sound (good_sound _) (head_sound at m)) (needed_sound (codes "it") (list_sound max_list_items sound) at m)

typed_sound : (names : Names) {inner : Reader Item} → ReadsSoundly inner → (ty : ItemType) → RowsAreSound (typed_rows names inner ty)
unfolding typed_rows
typed_sound names sound type.Group at m = group_sound sound at m
typed_sound names sound type.Rectangle at m = rectangle_sound names at m
typed_sound names sound type.Ellipse at m = ellipse_sound names at m
typed_sound names sound type.Polystar at m = polystar_sound names at m
typed_sound names sound type.Path at m = path_sound names at m
typed_sound names sound type.Fill at m = fill_sound names at m
typed_sound names sound type.Stroke at m = stroke_sound names at m
typed_sound names sound type.GradientFill at m = gradient_fill_sound names at m
typed_sound names sound type.GradientStroke at m = gradient_stroke_sound names at m
typed_sound names sound type.Trim at m = trim_sound names at m
typed_sound names sound type.Transform at m = transform_item_sound names at m

item_rows_sound : (names : Names) {inner : Reader Item} → ReadsSoundly inner → RowsAreSound (item_rows names inner)
unfolding item_rows
item_rows_sound names sound at m =
    then_sound _ (needed_sound (codes "ty") item_type_sound at m) (λ ty. typed_sound names sound ty at m)

item_within_sound : (names : Names) (n : ℕ) → ReadsSoundly (item_within names n)
unfolding item_within
item_within_sound names zero at j = bad_sound code.Kind at
item_within_sound names (suc n) at j = object_sound (item_rows_sound names (item_within_sound names n)) at j

pub item_sound : (names : Names) → ReadsSoundly (shape_item names)
unfolding shape_item
item_sound names at j = item_within_sound names (suc (size-Json j)) at j
