-- What is proved of each item: where there are no slots, its properties have values in any document, and each list that
-- it holds is within its limit.
use Rattle.std.proofs.Common.{◌≡◌, ℕ, List, [], ◌∷◌, sym, ◌∙◌, subst}
use Rattle.std.specs.List.{All}
use Rattle.std.proofs.lemmas.List.Elements.{All-nil, All-cons, All-same}
use Rattle.lot_types.specs.declared.color.Color.{Color}
use Rattle.lot_types.specs.declared.doc.Doc.{Doc}
use Rattle.lot_types.specs.declared.item.Item.{Item, out-Item}
use Rattle.lot_types.specs.declared.item.Item.TheOpen.{Item-F}
use Rattle.lot_types.specs.declared.item.Item.TheFolds.{map-Item}
use Rattle.lot_types.specs.declared.prop.Prop.{Prop}
use Rattle.lot_types.specs.declared.prop.Prop.TheVariants.{Own}
use Rattle.lot_types.specs.declared.prop.Track.{Track}
use Rattle.lot_types.specs.declared.slot.SlotKind.{SlotKind}
use Rattle.lot_types.specs.declared.slot.SlotKind.TheVariants as kind
use Rattle.lot_types.specs.Curve.{Curve}
use Rattle.lot_types.specs.Items.{FewIn, HasFewItems, ValuesIn, HasOwnValues, held, held_in}
use Rattle.lot_types.specs.Ramp.{Ramp}
use Rattle.lot_types.specs.Slots.{HasColor, HasBezier, HasGradient}
use Rattle.lot_types.proofs.Held.{beside_held, held-open}
use Rattle.lot_read.specs.Bezier.{bezier}
use Rattle.lot_read.specs.Color.{color}
use Rattle.lot_read.specs.Findings.{Reader}
use Rattle.lot_read.specs.Gradient.{gradient}
use Rattle.lot_read.specs.Number.{scalar}
use Rattle.lot_read.specs.PropertyRows.{needed_property}
use Rattle.lot_read.specs.Vector.{vector}
use Rattle.lot_doc.proofs.Only.{RowsGiveOnly, needed_only, object_only}
use Rattle.lot_doc.proofs.OnlyTracks.{TrackHasValue}
use Rattle.lot_doc.proofs.OnlyTransform.{EverScalar, EverVector, own_scalar, own_vector, property_rows_only}

-- An item by itself, in a document.
pub record IsGoodIn (d : Doc) (x : Item) : Type 0 where
  pub few : HasFewItems x
  pub values : HasOwnValues d x

-- An item with all that it holds, in any document.
abbrev pub IsGood : Item → Type 0
IsGood x = (d : Doc) → All (IsGoodIn d) (x ∷ held x)

pub good_in : (d : Doc) (x : Item) (y : Item-F Item) → out-Item x ≡ y → FewIn y → ValuesIn d y → IsGoodIn d x
unfolding HasFewItems HasOwnValues
good_in d x y e few values = record {
  few = subst FewIn (sym e) few;
  values = subst (ValuesIn d) (sym e) values;
}

-- An item that holds nothing.
pub single : (x : Item) (y : Item-F Item) → out-Item x ≡ y → FewIn y → ((d : Doc) → ValuesIn d y)
    → held_in (map-Item Item (Item × List Item) beside_held y) ≡ [] → IsGood x
single x y e few values none d =
    All-cons (IsGoodIn d) x (held x) (good_in d x y e few (values d))
    (All-same (IsGoodIn d) (held x) [] (held-open x y e ∙ none) (All-nil (IsGoodIn d)))

-- Properties.
abbrev pub EverColor : Prop Color → Type 0
EverColor p = (d : Doc) → HasColor d p

abbrev pub EverBezier : Prop Curve → Type 0
EverBezier p = (d : Doc) → HasBezier d p

abbrev pub EverGradient : Prop Ramp → Type 0
EverGradient p = (d : Doc) → HasGradient d p

own_color : (t : Track Color) → TrackHasValue t → EverColor (Own t)
own_color t has d = has

own_bezier : (t : Track Curve) → TrackHasValue t → EverBezier (Own t)
own_bezier t has d = has

own_gradient : (t : Track Ramp) → TrackHasValue t → EverGradient (Own t)
own_gradient t has d = has

needed_property_only : {T : Type 0} (P : Prop T → Type 0) (of : SlotKind) (value : Reader T) → ((t : Track T) → TrackHasValue t → P (Own t))
    → (name : List ℕ) → RowsGiveOnly P (needed_property of value [] name)
unfolding needed_property
needed_property_only P of value owns name at m = needed_only name (object_only (property_rows_only P of value owns)) at m

pub scalar_needed : (name : List ℕ) → RowsGiveOnly EverScalar (needed_property kind.Scalar scalar [] name)
scalar_needed name = needed_property_only EverScalar kind.Scalar scalar own_scalar name

pub vector_needed : (name : List ℕ) → RowsGiveOnly EverVector (needed_property kind.Vector vector [] name)
vector_needed name = needed_property_only EverVector kind.Vector vector own_vector name

pub color_needed : (name : List ℕ) → RowsGiveOnly EverColor (needed_property kind.Color color [] name)
color_needed name = needed_property_only EverColor kind.Color color own_color name

pub bezier_needed : (name : List ℕ) → RowsGiveOnly EverBezier (needed_property kind.Bezier bezier [] name)
bezier_needed name = needed_property_only EverBezier kind.Bezier bezier own_bezier name

pub gradient_needed : (stops : ℕ) (name : List ℕ) → RowsGiveOnly EverGradient (needed_property (kind.Gradient stops) (gradient stops) [] name)
gradient_needed stops name = needed_property_only EverGradient (kind.Gradient stops) (gradient stops) own_gradient name
