-- Where there are no slots, the properties of each item have values in any document; and each list of items is within
-- its limit.
use Rattle.std.proofs.Common.{ℕ, ℤ, zero, suc, pos, Bool, List, [], ◌∷◌, codes, refl}
use Rattle.std.specs.List.{All}
use Rattle.std.proofs.lemmas.List.Elements.{All-cons, All-same, All-weaker}
use Rattle.lot_types.specs.declared.doc.Doc.{Doc}
use Rattle.lot_types.specs.declared.fault.FaultCode.TheVariants as code
use Rattle.lot_types.specs.declared.item.Item.{Item}
use Rattle.lot_types.specs.declared.item.Item.TheOpen as item
use Rattle.lot_types.specs.declared.item.Item.TheVariants as made
use Rattle.lot_types.specs.declared.prop.Prop.{Prop}
use Rattle.lot_types.specs.declared.transform.Transform.{Transform}
use Rattle.lot_types.specs.Items.{HasFewItems, HasOwnValues, AreItemsOf, held, all_items}
use Rattle.lot_types.proofs.Held.{held-Group, all_of_each}
use Rattle.lot_json.specs.declared.tree.json.Json.{size-Json}
use Rattle.lot_read.specs.Findings.{Reader}
use Rattle.lot_types.specs.Limits.{max_list_items}
use Rattle.lot_read.specs.Rows.{needed, optional}
use Rattle.lot_read.specs.Transform.{hundred_per_cent}
use Rattle.lot_read.specs.Whole.{whole}
use Rattle.lot_doc.specs.declared.item_type.ItemType.{ItemType}
use Rattle.lot_doc.specs.declared.item_type.ItemType.TheVariants as type
use Rattle.lot_doc.specs.Item.{transform_item_rows, group_rows, typed_rows, item_rows, item_within}
use Rattle.lot_doc.specs.Item.{shape_item}
use Rattle.lot_doc.specs.ItemHead.{item_type, head_rows}
use Rattle.lot_doc.specs.Trim.{trim_rows}
use Rattle.lot_doc.proofs.GoodItems.{IsGood, IsGoodIn, good_in, single}
use Rattle.lot_doc.proofs.Only.{ReadsOnly, RowsGiveOnly, AreFew, good_only, bad_only, row_only, any_row_only, then_only, needed_only, object_only, list_only}
use Rattle.lot_doc.proofs.OnlyShapes.{rectangle_only, ellipse_only, polystar_only, path_only}
use Rattle.lot_doc.proofs.OnlyStyles.{fill_only, stroke_only, gradient_fill_only, gradient_stroke_only}
use Rattle.lot_doc.proofs.OnlyTransform.{EverScalar, EverValues, scalar_or_only, transform_rows_only}

-- Trims.
good_trim : (hidden : Bool) (s : Prop ℤ) → EverScalar s → (e : Prop ℤ) → EverScalar e → (o : Prop ℤ) → EverScalar o
    → (mode : ℕ) → IsGood (made.Trim hidden s e o mode)
good_trim hidden s ever_s e ever_e o ever_o mode =
    single (made.Trim hidden s e o mode) (item.Trim hidden s e o mode) (made.outs-Trim hidden s e o mode) tt
    (λ doc. (ever_s doc, ever_e doc, ever_o doc)) refl

trim_only : RowsGiveOnly IsGood (trim_rows [])
unfolding trim_rows
trim_only at m =
    any_row_only (optional (codes "m") (whole 1 2) 1 at m)
    (row_only (scalar_or_only (pos 0) (codes "o") at m)
    (row_only (scalar_or_only hundred_per_cent (codes "e") at m)
    (row_only (scalar_or_only (pos 0) (codes "s") at m)
    (any_row_only (head_rows at m)
    (good_only (λ (hidden : Bool) (s e o : Prop ℤ) (mode : ℕ). made.Trim hidden s e o mode) good_trim)))))

-- Transforms and groups.
good_transform : (hidden : Bool) (ks : Transform) → EverValues ks → IsGood (made.Place hidden ks)
good_transform hidden ks ever =
    single (made.Place hidden ks) (item.Place hidden ks) (made.outs-Place hidden ks) tt (λ doc. ever doc) refl

transform_item_only : RowsGiveOnly IsGood (transform_item_rows [])
unfolding transform_item_rows
transform_item_only at m =
    row_only (transform_rows_only at m)
    (any_row_only (head_rows at m)
    (good_only (λ (hidden : Bool) (ks : Transform). made.Place hidden ks) good_transform))

pub good_items : (d : Doc) (xs : List Item) → All IsGood xs → All (IsGoodIn d) (all_items xs)
good_items d xs h = all_of_each (IsGoodIn d) xs (All-weaker IsGood (λ x. All (IsGoodIn d) (x ∷ held x)) (λ x good. good d) xs h)

good_group : (hidden : Bool) (it : List Item) → AreFew max_list_items IsGood it → IsGood (made.Group hidden it)
good_group hidden it h d =
    let x : Item = made.Group hidden it in
    All-cons (IsGoodIn d) x (held x) (good_in d x (item.Group hidden it) (made.outs-Group hidden it) h.0 tt)
    (All-same (IsGoodIn d) (held x) (all_items it) (held-Group hidden it) (good_items d it h.1))

group_only : {inner : Reader Item} → ReadsOnly IsGood inner → RowsGiveOnly IsGood (group_rows inner)
unfolding group_rows
group_only reads at m =
    row_only (needed_only (codes "it") (list_only max_list_items reads) at m)
    (any_row_only (head_rows at m)
    (good_only (λ (hidden : Bool) (it : List Item). made.Group hidden it) good_group))

-- Items.
typed_only : {inner : Reader Item} → ReadsOnly IsGood inner → (ty : ItemType) → RowsGiveOnly IsGood (typed_rows [] inner ty)
unfolding typed_rows
typed_only reads type.Group at m = group_only reads at m
typed_only reads type.Rectangle at m = rectangle_only at m
typed_only reads type.Ellipse at m = ellipse_only at m
typed_only reads type.Polystar at m = polystar_only at m
typed_only reads type.Path at m = path_only at m
typed_only reads type.Fill at m = fill_only at m
typed_only reads type.Stroke at m = stroke_only at m
typed_only reads type.GradientFill at m = gradient_fill_only at m
typed_only reads type.GradientStroke at m = gradient_stroke_only at m
typed_only reads type.Trim at m = trim_only at m
typed_only reads type.Transform at m = transform_item_only at m

item_rows_only : {inner : Reader Item} → ReadsOnly IsGood inner → RowsGiveOnly IsGood (item_rows [] inner)
unfolding item_rows
item_rows_only {inner} reads at m =
    then_only (needed (codes "ty") item_type at m) (λ (ty : ItemType). typed_rows [] inner ty at m) (λ ty. typed_only reads ty at m)

item_within_only : (n : ℕ) → ReadsOnly IsGood (item_within [] n)
unfolding item_within
item_within_only zero at j = bad_only code.Kind at
item_within_only (suc n) at j = object_only (item_rows_only (item_within_only n)) at j

pub item_only : ReadsOnly IsGood (shape_item [])
unfolding shape_item
item_only at j = item_within_only (suc (size-Json j)) at j

-- The items of a shape layer.
pub are_items : (items : List Item) → AreFew max_list_items IsGood items → (d : Doc) → AreItemsOf d items
are_items items h d =
    let all : All (IsGoodIn d) (all_items items) = good_items d items h.1 in
    record {
      few = h.0;
      few_within = All-weaker (IsGoodIn d) HasFewItems (λ x good. good.few) (all_items items) all;
      values = All-weaker (IsGoodIn d) (HasOwnValues d) (λ x good. good.values) (all_items items) all;
    }
