-- Each style that the tables give is good: where there are no slots, its properties have values in any document.
use Rattle.std.proofs.Common.{ℕ, ℤ, pos, Bool, [], codes, refl, arith}
use Rattle.std.proofs.lemmas.List.Elements.{All-nil, All-weaker}
use Rattle.lot_types.specs.declared.color.Color.{Color}
use Rattle.lot_types.specs.declared.dash.Dash.{Dash}
use Rattle.lot_types.specs.declared.doc.Doc.{Doc}
use Rattle.lot_types.specs.declared.item.Item.{Item}
use Rattle.lot_types.specs.declared.item.Item.TheOpen as item
use Rattle.lot_types.specs.declared.item.Item.TheVariants as made
use Rattle.lot_types.specs.declared.prop.Prop.{Prop}
use Rattle.lot_types.specs.declared.stops.Stops.{Stops}
use Rattle.lot_types.specs.Items.{DashesHaveValues}
use Rattle.lot_types.specs.Slots.{HasScalar}
use Rattle.lot_read.specs.Lists.{list}
use Rattle.lot_types.specs.Limits.{max_list_items}
use Rattle.lot_read.specs.Rows.{needed, optional, object}
use Rattle.lot_read.specs.Transform.{hundred_per_cent}
use Rattle.lot_read.specs.Whole.{whole}
use Rattle.lot_doc.specs.declared.gradient.BaseGradient.{BaseGradient}
use Rattle.lot_doc.specs.declared.gradient.Focus.{Focus}
use Rattle.lot_doc.specs.declared.gradient.Geometry.{Geometry}
use Rattle.lot_doc.specs.declared.stroke.Line.{Line}
use Rattle.lot_doc.specs.Gradient.{max_stops, colors_rows, stops_rows, needed_stops, geometry_rows, focus_rows, base_gradient_rows, gradient_fill_rows, gradient_stroke_rows}
use Rattle.lot_doc.specs.ItemHead.{head_rows}
use Rattle.lot_doc.specs.Style.{fill_rule, fill_rows, dash_kind, dash_rows, cap_and_join_rows, line_rows, stroke_rows}
use Rattle.lot_doc.proofs.GoodItems.{IsGood, single, EverColor, EverGradient, scalar_needed, vector_needed, color_needed, gradient_needed}
use Rattle.lot_doc.proofs.Only.{RowsGiveOnly, AreFew, good_only, row_only, any_row_only, then_only, needed_only, optional_only, object_only, list_only}
use Rattle.lot_doc.proofs.OnlyTransform.{EverScalar, EverVector, scalar_or_only}

good_fill : (hidden : Bool) (c : Prop Color) → EverColor c → (o : Prop ℤ) → EverScalar o → (r : ℕ) → IsGood (made.Fill hidden c o r)
good_fill hidden c ever_c o ever_o r =
    single (made.Fill hidden c o r) (item.Fill hidden c o r) (made.outs-Fill hidden c o r) tt (λ doc. (ever_c doc, ever_o doc)) refl

pub fill_only : RowsGiveOnly IsGood (fill_rows [])
unfolding fill_rows
fill_only at m =
    any_row_only (fill_rule at m)
    (row_only (scalar_or_only hundred_per_cent (codes "o") at m)
    (row_only (color_needed (codes "c") at m)
    (any_row_only (head_rows at m)
    (good_only (λ (hidden : Bool) (c : Prop Color) (o : Prop ℤ) (r : ℕ). made.Fill hidden c o r) good_fill))))

abbrev EverDash : Dash → Type 0
EverDash dash = EverScalar dash.v

dash_only : RowsGiveOnly EverDash (dash_rows [])
unfolding dash_rows
dash_only at m =
    row_only (scalar_needed (codes "v") at m)
    (any_row_only (needed (codes "n") dash_kind at m)
    (good_only _ (λ n v ever. ever)))

abbrev EverLine : Line → Type 0
EverLine line = EverScalar line.w × AreFew max_list_items EverDash line.d

dashes_only : RowsGiveOnly (AreFew max_list_items EverDash) (optional (codes "d") (list max_list_items (object (dash_rows []))) [])
dashes_only at m =
    optional_only (codes "d") [] (omega arith, All-nil EverDash) (list_only max_list_items (object_only dash_only)) at m

line_only : RowsGiveOnly EverLine (line_rows [])
unfolding line_rows
line_only at m =
    row_only (dashes_only at m)
    (any_row_only (cap_and_join_rows at m)
    (row_only (scalar_needed (codes "w") at m)
    (good_only _ (λ w ever_w turns d ever_d. (ever_w, ever_d)))))

dashes_have_values : (doc : Doc) (l : Line) → EverLine l → DashesHaveValues doc l.d
dashes_have_values doc l ever = All-weaker EverDash (λ dash. HasScalar doc dash.v) (λ dash h. h doc) l.d ever.1.1

abbrev stroke : Bool → Prop Color → Prop ℤ → Line → Item
stroke hidden c o line = made.Stroke hidden c o line.w line.lc line.lj line.ml line.d

good_stroke : (hidden : Bool) (c : Prop Color) → EverColor c → (o : Prop ℤ) → EverScalar o → (line : Line) → EverLine line
    → IsGood (stroke hidden c o line)
good_stroke hidden c ever_c o ever_o l ever =
    single (stroke hidden c o l) (item.Stroke hidden c o l.w l.lc l.lj l.ml l.d) (made.outs-Stroke hidden c o l.w l.lc l.lj l.ml l.d) ever.1.0
    (λ doc. (ever_c doc, ever_o doc, ever.0 doc, dashes_have_values doc l ever)) refl

pub stroke_only : RowsGiveOnly IsGood (stroke_rows [])
unfolding stroke_rows
stroke_only at m =
    row_only (line_only at m)
    (row_only (scalar_or_only hundred_per_cent (codes "o") at m)
    (row_only (color_needed (codes "c") at m)
    (any_row_only (head_rows at m)
    (good_only stroke good_stroke))))

-- Gradients.
abbrev EverStops : Stops → Type 0
EverStops g = EverGradient g.k

colors_only : (p : ℕ) → RowsGiveOnly EverStops (colors_rows [] p)
unfolding colors_rows
colors_only p at m = row_only (gradient_needed p (codes "k") at m) (good_only _ (λ k ever. ever))

stops_only : RowsGiveOnly EverStops (stops_rows [])
unfolding stops_rows
stops_only at m =
    then_only (needed (codes "p") (whole 1 max_stops) at m) (λ (p : ℕ). colors_rows [] p at m) (λ p. colors_only p at m)

needed_stops_only : RowsGiveOnly EverStops (needed_stops [])
unfolding needed_stops
needed_stops_only at m = needed_only (codes "g") (object_only stops_only) at m

abbrev EverBase : BaseGradient → Type 0
EverBase b = EverScalar b.o × EverVector b.s × EverVector b.e × EverStops b.g × EverScalar b.h × EverScalar b.a

abbrev EverGeometry : Geometry → Type 0
EverGeometry geometry = EverVector geometry.s × EverVector geometry.e

geometry_only : RowsGiveOnly EverGeometry (geometry_rows [])
unfolding geometry_rows
geometry_only at m =
    any_row_only (optional (codes "t") (whole 1 2) 1 at m)
    (row_only (vector_needed (codes "e") at m)
    (row_only (vector_needed (codes "s") at m)
    (good_only _ (λ s ever_s e ever_e t. (ever_s, ever_e)))))

abbrev EverFocus : Focus → Type 0
EverFocus focus = EverScalar focus.h × EverScalar focus.a

focus_only : RowsGiveOnly EverFocus (focus_rows [])
unfolding focus_rows
focus_only at m =
    row_only (scalar_or_only (pos 0) (codes "a") at m)
    (row_only (scalar_or_only (pos 0) (codes "h") at m)
    (good_only _ (λ h ever_h a ever_a. (ever_h, ever_a))))

base_gradient_only : RowsGiveOnly EverBase (base_gradient_rows [])
unfolding base_gradient_rows
base_gradient_only at m =
    row_only (focus_only at m)
    (row_only (needed_stops_only at m)
    (row_only (geometry_only at m)
    (row_only (scalar_or_only hundred_per_cent (codes "o") at m)
    (good_only _ (λ o ever_o geometry ends g ever_g focus ever_focus.
    (ever_o, ends.0, ends.1, ever_g, ever_focus.0, ever_focus.1))))))

abbrev gradient_fill : Bool → BaseGradient → ℕ → Item
gradient_fill hidden b r = made.GradientFill hidden b.o b.s b.e b.t b.g b.h b.a r

good_gradient_fill : (hidden : Bool) (b : BaseGradient) → EverBase b → (r : ℕ) → IsGood (gradient_fill hidden b r)
good_gradient_fill hidden b ever r =
    single (gradient_fill hidden b r) (item.GradientFill hidden b.o b.s b.e b.t b.g b.h b.a r)
    (made.outs-GradientFill hidden b.o b.s b.e b.t b.g b.h b.a r) tt
    (λ doc. (ever.0 doc, ever.1 doc, ever.2 doc, ever.3 doc, ever.4 doc, ever.5 doc)) refl

pub gradient_fill_only : RowsGiveOnly IsGood (gradient_fill_rows [])
unfolding gradient_fill_rows
gradient_fill_only at m =
    any_row_only (fill_rule at m)
    (row_only (base_gradient_only at m)
    (any_row_only (head_rows at m)
    (good_only gradient_fill good_gradient_fill)))

abbrev gradient_stroke : Bool → BaseGradient → Line → Item
gradient_stroke hidden b l = made.GradientStroke hidden b.o b.s b.e b.t b.g b.h b.a l.w l.lc l.lj l.ml l.d

good_gradient_stroke : (hidden : Bool) (b : BaseGradient) → EverBase b → (l : Line) → EverLine l → IsGood (gradient_stroke hidden b l)
good_gradient_stroke hidden b ever l lined =
    single (gradient_stroke hidden b l) (item.GradientStroke hidden b.o b.s b.e b.t b.g b.h b.a l.w l.lc l.lj l.ml l.d)
    (made.outs-GradientStroke hidden b.o b.s b.e b.t b.g b.h b.a l.w l.lc l.lj l.ml l.d) lined.1.0
    (λ doc. (ever.0 doc, ever.1 doc, ever.2 doc, ever.3 doc, ever.4 doc, ever.5 doc, lined.0 doc, dashes_have_values doc l lined)) refl

pub gradient_stroke_only : RowsGiveOnly IsGood (gradient_stroke_rows [])
unfolding gradient_stroke_rows
gradient_stroke_only at m =
    row_only (line_only at m)
    (row_only (base_gradient_only at m)
    (any_row_only (head_rows at m)
    (good_only gradient_stroke good_gradient_stroke)))
