-- Each document that the tables give is well-formed.
use Rattle.std.proofs.Common.{◌≡◌, ℤ, true, List, [], Option, Some, codes, refl, subst, sym, T, arith}
use Rattle.std.specs.Int.Signed.{lt_z_yes}
use Rattle.std.specs.Option.{IfSome}
use Rattle.std.proofs.lemmas.List.Elements.{All-nil, All-cons}
use Rattle.lot_types.specs.declared.doc.Doc.{Doc}
use Rattle.lot_types.specs.declared.item.Item.{Item}
use Rattle.lot_types.specs.declared.layer.Layer.{Layer}
use Rattle.lot_types.specs.declared.layer.LayerKind.{LayerKind}
use Rattle.lot_types.specs.declared.layer.LayerKind.TheVariants as kind
use Rattle.lot_types.specs.declared.rgb.Rgb.{Rgb}
use Rattle.lot_types.specs.declared.read.Read.{Read}
use Rattle.lot_types.specs.declared.slot.Use.{Use}
use Rattle.lot_types.specs.declared.transform.Transform.{Transform}
use Rattle.lot_types.specs.WellFormed.{HasFewLayers, HasKindValues, HasLayerValues, LayersHaveValues, IsBuiltKind, IsBuilt, LayersAreBuilt, IsWellFormed}
use Rattle.lot_types.specs.Limits.{max_layers}
use Rattle.lot_json.specs.declared.tree.json.Json.{Json}
use Rattle.lot_types.specs.Limits.{max_list_items}
use Rattle.lot_read.specs.Number.{not_below_zero, above_zero, number}
use Rattle.lot_read.specs.Rows.{needed, unbuilt}
use Rattle.lot_doc.specs.declared.layer_type.LayerType.{LayerType}
use Rattle.lot_doc.specs.declared.layer_type.LayerType.TheVariants.{Solid, Null, Shape}
use Rattle.lot_doc.specs.Color.{hex_color}
use Rattle.lot_doc.specs.declared.layer.Header.{Header}
use Rattle.lot_doc.specs.declared.layer.Content.{Content}
use Rattle.lot_doc.specs.declared.root.Size.{Size}
use Rattle.lot_doc.specs.declared.running_time.RunningTime.{RunningTime}
use Rattle.lot_doc.specs.Layer.{layer_type, header_rows, solid_rows, shape_rows, type_rows, kind_rows, content_rows, layer_of, layer_rows, typed_layer_rows}
use Rattle.lot_doc.specs.Root.{running_time_rows, size_rows, resource_rows, comp_of_layers, doc_of, root_rows, document}
use Rattle.lot_doc.proofs.Only.{GivesOnly, RowsGiveOnly, AreFew, good_only, row_only, any_row_only, also_only, then_only, needed_only, object_only, number_only, list_only}
use Rattle.lot_doc.proofs.OnlyItems.{item_only, are_items}
use Rattle.lot_doc.proofs.OnlyTransform.{EverValues, transform_only}

-- What a layer shows can be evaluated, in any document.
abbrev KindIsGood : LayerKind → Type 0
KindIsGood shown = IsBuiltKind shown × ((d : Doc) → HasKindValues d shown)

solid_rows_only : RowsGiveOnly KindIsGood solid_rows
unfolding solid_rows
solid_rows_only at m =
    any_row_only (needed (codes "sc") hex_color at m)
    (any_row_only (needed (codes "sh") (number not_below_zero) at m)
    (any_row_only (needed (codes "sw") (number not_below_zero) at m)
    (good_only (λ (w h : ℤ) (rgb : Rgb). kind.Solid w h rgb) (λ w h rgb. (tt, λ d. tt)))))

shape_rows_only : RowsGiveOnly KindIsGood (shape_rows [])
unfolding shape_rows
shape_rows_only at m =
    row_only (needed_only (codes "shapes") (list_only max_list_items item_only) at m)
    (good_only (λ (items : List Item). kind.Shape items) (λ items good. (tt, are_items items good)))

type_rows_only : (ty : LayerType) → RowsGiveOnly KindIsGood (type_rows [] ty)
unfolding type_rows
type_rows_only Solid at m = solid_rows_only at m
type_rows_only Null at m = good_only kind.Null (tt, λ d. tt)
type_rows_only Shape at m = shape_rows_only at m

kind_rows_only : (ty : LayerType) → RowsGiveOnly KindIsGood (kind_rows [] ty)
unfolding kind_rows
kind_rows_only ty at m =
    row_only (type_rows_only ty at m)
    (also_only (unbuilt (codes "masksProperties") at m)
    (good_only (λ (shown : LayerKind). shown) (λ shown good. good)))

-- Layers: the transform of each has values in any document, and each can be evaluated.
abbrev ContentIsGood : Content → Type 0
ContentIsGood content = EverValues content.ks × KindIsGood content.kind

content_rows_only : (ty : LayerType) → RowsGiveOnly ContentIsGood (content_rows [] ty)
unfolding content_rows
content_rows_only ty at m =
    row_only (kind_rows_only ty at m)
    (row_only (needed_only (codes "ks") transform_only at m)
    (good_only (λ (ks : Transform) (shown : LayerKind). record { ks = ks; kind = shown }) (λ ks ever shown good. (ever, good))))

abbrev LayerIsGood : Layer → Type 0
LayerIsGood layer = ((d : Doc) → HasLayerValues d layer) × IsBuilt layer

good_layer : (header : Header) (content : Content) → ContentIsGood content → LayerIsGood (layer_of header content)
good_layer header content good =
    (λ d. record { transform = good.0 d; kind = good.1.1 d }, record { kind = good.1.0; matte = refl; masks = refl })

layer_rows_only : (ty : LayerType) → RowsGiveOnly LayerIsGood (layer_rows [] ty)
unfolding layer_rows
layer_rows_only ty at m =
    row_only (content_rows_only ty at m)
    (any_row_only (header_rows at m)
    (good_only (λ (header : Header) (content : Content). layer_of header content) good_layer))

typed_layer_rows_only : RowsGiveOnly LayerIsGood (typed_layer_rows [])
unfolding typed_layer_rows
typed_layer_rows_only at m =
    then_only (needed (codes "ty") layer_type at m) (λ (ty : LayerType). layer_rows [] ty at m) (λ ty. layer_rows_only ty at m)

-- The document is well-formed, whatever its uses of slots are.
abbrev IsWellFormedDoc : Doc → Type 0
IsWellFormedDoc d = (uses : List Use) → IsWellFormed (record { doc = d; uses = uses })

well_formed_doc : (size : Size) (fr : ℤ) → above_zero fr ≡ true → (time : RunningTime) (layers : List Layer)
    → AreFew max_layers LayerIsGood layers → IsWellFormedDoc (doc_of size fr time layers)
well_formed_doc size fr above time layers few uses =
    let d = doc_of size fr time layers in
    let main = comp_of_layers layers in
    record {
      some = omega arith;
      few_comps = omega arith;
      few_layers = All-cons HasFewLayers main [] few.0 (All-nil HasFewLayers);
      few_slots = omega arith;
      named = tt;
      rate = lt_z_yes (subst T (sym above) tt);
      slots = All-cons (LayersHaveValues d) main [] (λ k other within. (few.1 k other within).0 d) (All-nil (LayersHaveValues d));
      built = All-cons LayersAreBuilt main [] (λ k other within. (few.1 k other within).1) (All-nil LayersAreBuilt);
    }

root_rows_only : RowsGiveOnly IsWellFormedDoc (root_rows [])
unfolding root_rows
root_rows_only at m =
    row_only (needed_only (codes "layers") (list_only max_layers (object_only typed_layer_rows_only)) at m)
    (also_only (resource_rows at m)
    (any_row_only (running_time_rows at m)
    (row_only (needed_only (codes "fr") (number_only above_zero) at m)
    (any_row_only (size_rows at m)
    (good_only (λ (size : Size) (fr : ℤ) (time : RunningTime) (layers : List Layer). doc_of size fr time layers) well_formed_doc)))))

pub value_is_well_formed : (j : Json) (r : Read) → (document j).value ≡ Some r.doc → IsWellFormed r
value_is_well_formed j r is =
    let found : GivesOnly IsWellFormedDoc (document j) = object_only root_rows_only [] j in
    let doc : IsWellFormedDoc r.doc = subst (λ (v : Option Doc). IfSome v IsWellFormedDoc) is found.only in
    doc r.uses
