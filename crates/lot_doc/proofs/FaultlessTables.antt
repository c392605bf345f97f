-- Each table of the document keeps that a tree without faults has a value.
use Rattle.std.proofs.Common.{◌==◌, ℤ, pos, ◌*◌, ◌%◌, ◌^◌, false, int_lt, unsigned_abs, List, [], Option, Some, None, codes}
use Rattle.std.specs.Ordering.{int_eq}
use Rattle.lot_types.specs.declared.fault.FaultCode.TheVariants.{Kind, Value, Order, Unsupported}
use Rattle.lot_types.specs.declared.item.Item.{Item}
use Rattle.lot_types.specs.declared.layer.LayerKind.{LayerKind}
use Rattle.lot_types.specs.declared.layer.LayerKind.TheVariants as kind
use Rattle.lot_types.specs.declared.rgb.Rgb.{Rgb}
use Rattle.lot_types.specs.Limits.{max_layers}
use Rattle.lot_json.specs.declared.tree.json.Json.{Json, out-Json}
use Rattle.lot_json.specs.declared.tree.json.Json.TheOpen as tree
use Rattle.lot_json.specs.declared.tree.pointer.Step.{Step}
use Rattle.lot_read.specs.Findings.{Findings, under, bad}
use Rattle.lot_types.specs.Limits.{max_list_items}
use Rattle.lot_read.specs.Number.{any, not_below_zero, above_zero}
use Rattle.lot_read.specs.SlotNames.{Names}
use Rattle.lot_read.specs.Sound.{IsSound, ReadsSoundly, RowsAreSound}
use Rattle.lot_read.proofs.Sound.{good_sound, bad_sound, if_sound, row_sound, also_sound, then_sound, needed_sound, optional_sound, maybe_sound, unbuilt_sound, object_sound, list_sound}
use Rattle.lot_read.proofs.SoundValues.{number_sound, flag_sound}
use Rattle.lot_read.proofs.SoundTransform.{transform_sound}
use Rattle.lot_doc.specs.declared.layer_type.LayerType.{LayerType}
use Rattle.lot_doc.specs.declared.layer_type.LayerType.TheVariants.{Solid, Null, Shape}
use Rattle.lot_doc.specs.declared.running_time.RunningTime.{RunningTime}
use Rattle.lot_doc.specs.Color.{good_or_value, color_of, hex_color}
use Rattle.lot_doc.specs.Layer.{layer_type_or_fault, layer_type, link_rows, matte_rows, header_rows, solid_rows, shape_rows, type_rows, kind_rows, content_rows, layer_rows, typed_layer_rows}
use Rattle.lot_doc.specs.Root.{max_assets, in_order, running_time_rows, size_rows, resource_rows, root_rows, document}
use Rattle.lot_doc.proofs.FaultlessFeatures.{left_out_sound, asset_sound}
use Rattle.lot_doc.proofs.FaultlessItems.{item_sound}

good_or_value_sound : {A : Type 0} (at : List Step) (o : Option A) → IsSound (good_or_value at o)
good_or_value_sound at (Some x) = good_sound x
good_or_value_sound at None = bad_sound Value at

color_sound : ReadsSoundly hex_color
unfolding hex_color
color_sound at j =
    elim (out-Json j) as (λ v. let found : Findings Rgb = elim v [ tree.Text t ↦ good_or_value at (color_of t) | _ ↦ bad Kind at ] in IsSound found) [
      | tree.Text t ↦ good_or_value_sound at (color_of t)
      | _ ↦ bad_sound Kind at
    ]

-- Layers.
type_or_fault_sound : (at : List Step) (z : ℤ) → IsSound (layer_type_or_fault at z)
type_or_fault_sound at z =
    if_sound (int_eq z (pos (10 ^ 6))) (good_sound Solid)
    (if_sound (int_eq z (pos (3 * 10 ^ 6))) (good_sound Null)
    (if_sound (int_eq z (pos (4 * 10 ^ 6))) (good_sound Shape)
    (if_sound (unsigned_abs z % 10 ^ 6 == 0) (bad_sound Unsupported at) (bad_sound Value at))))

layer_type_sound : ReadsSoundly layer_type
unfolding layer_type
layer_type_sound at j = then_sound _ (number_sound any at j) (type_or_fault_sound at)

links_sound : RowsAreSound link_rows
unfolding link_rows
links_sound at m =
    row_sound (row_sound (good_sound _)
    (maybe_sound (codes "ind") (number_sound any) at m))
    (maybe_sound (codes "parent") (number_sound any) at m)

mattes_sound : RowsAreSound matte_rows
unfolding matte_rows
mattes_sound at m =
    also_sound (also_sound (also_sound (good_sound tt)
    (unbuilt_sound (codes "td") at m))
    (unbuilt_sound (codes "tt") at m))
    (unbuilt_sound (codes "tp") at m)

header_sound : RowsAreSound header_rows
unfolding header_rows
header_sound at m =
    also_sound (row_sound (row_sound (row_sound (row_sound (also_sound (good_sound _)
    (left_out_sound at m))
    (optional_sound (codes "hd") false flag_sound at m))
    (links_sound at m))
    (needed_sound (codes "ip") (number_sound any) at m))
    (needed_sound (codes "op") (number_sound any) at m))
    (mattes_sound at m)

solid_sound : RowsAreSound solid_rows
unfolding solid_rows
solid_sound at m =
    row_sound (row_sound (row_sound (good_sound (λ (w h : ℤ) (rgb : Rgb). kind.Solid w h rgb))
    (needed_sound (codes "sw") (number_sound not_below_zero) at m))
    (needed_sound (codes "sh") (number_sound not_below_zero) at m))
    (needed_sound (codes "sc") color_sound at m)

shape_sound : (names : Names) → RowsAreSound (shape_rows names)
unfolding shape_rows
shape_sound names at m =
    row_sound (good_sound (λ (items : List Item). kind.Shape items))
    (needed_sound (codes "shapes") (list_sound max_list_items (item_sound names)) at m)

type_rows_sound : (names : Names) (ty : LayerType) → RowsAreSound (type_rows names ty)
unfolding type_rows
type_rows_sound names Solid at m = solid_sound at m
type_rows_sound names Null at m = good_sound kind.Null
type_rows_sound names Shape at m = shape_sound names at m

kind_sound : (names : Names) (ty : LayerType) → RowsAreSound (kind_rows names ty)
unfolding kind_rows
kind_sound names ty at m =
    row_sound (also_sound (good_sound (λ (shown : LayerKind). shown)) (unbuilt_sound (codes "masksProperties") at m)) (type_rows_sound names ty at m)

content_sound : (names : Names) (ty : LayerType) → RowsAreSound (content_rows names ty)
unfolding content_rows
content_sound names ty at m =
    row_sound (row_sound (good_sound _) (needed_sound (codes "ks") (transform_sound names) at m)) (kind_sound names ty at m)

layer_rows_sound : (names : Names) (ty : LayerType) → RowsAreSound (layer_rows names ty)
unfolding layer_rows
layer_rows_sound names ty at m = row_sound (row_sound (good_sound _) (header_sound at m)) (content_sound names ty at m)

typed_layer_sound : (names : Names) → RowsAreSound (typed_layer_rows names)
unfolding typed_layer_rows
typed_layer_sound names at m =
    then_sound _ (needed_sound (codes "ty") layer_type_sound at m) (λ ty. layer_rows_sound names ty at m)

-- The whole animation.
in_order_sound : (at : List Step) (time : RunningTime) → IsSound (in_order at time)
in_order_sound at time = if_sound (int_lt time.ip time.op) (good_sound time) (bad_sound Order (under at (codes "op")))

running_time_sound : RowsAreSound running_time_rows
unfolding running_time_rows
running_time_sound at m =
    then_sound _ (row_sound (row_sound (good_sound _)
    (needed_sound (codes "ip") (number_sound any) at m))
    (needed_sound (codes "op") (number_sound any) at m))
    (in_order_sound at)

size_sound : RowsAreSound size_rows
unfolding size_rows
size_sound at m =
    row_sound (row_sound (good_sound _)
    (needed_sound (codes "w") (number_sound not_below_zero) at m))
    (needed_sound (codes "h") (number_sound not_below_zero) at m)

resources_sound : RowsAreSound resource_rows
unfolding resource_rows
resources_sound at m =
    also_sound (also_sound (good_sound tt)
    (unbuilt_sound (codes "slots") at m))
    (optional_sound (codes "assets") [] (list_sound max_assets (object_sound asset_sound)) at m)

root_sound : (names : Names) → RowsAreSound (root_rows names)
unfolding root_rows
root_sound names at m =
    row_sound (also_sound (row_sound (row_sound (row_sound (good_sound _)
    (size_sound at m))
    (needed_sound (codes "fr") (number_sound above_zero) at m))
    (running_time_sound at m))
    (resources_sound at m))
    (needed_sound (codes "layers") (list_sound max_layers (object_sound (typed_layer_sound names))) at m)

pub document_sound : (j : Json) → IsSound (document j)
document_sound j = object_sound (root_sound []) [] j
