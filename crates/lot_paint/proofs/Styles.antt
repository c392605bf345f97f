-- What the properties of styles have, and that the other items are no styles.
use Rattle.std.proofs.Common.{◌≡◌, ℕ, ℤ, Bool, true, false, List, subst}
use Rattle.lot_types.specs.declared.color.Color.{Color}
use Rattle.lot_types.specs.declared.dash.Dash.{Dash}
use Rattle.lot_types.specs.declared.doc.Doc.{Doc}
use Rattle.lot_types.specs.declared.item.Item.{Item}
use Rattle.lot_types.specs.declared.item.Item.TheVariants.{Fill, Stroke, GradientFill, GradientStroke, outs-Fill, outs-Stroke, outs-GradientFill, outs-GradientStroke}
use Rattle.lot_types.specs.declared.point.Point.{Point}
use Rattle.lot_types.specs.declared.prop.Prop.{Prop}
use Rattle.lot_types.specs.declared.stops.Stops.{Stops}
use Rattle.lot_types.specs.Items.{ItemKind, kind_of, is_style, is_style_kind, HasOwnValues, ValuesIn, DashesHaveValues}
use Rattle.lot_paint.specs.Gradient.{HasGradientValues}
use Rattle.lot_types.specs.Slots.{HasColor, HasScalar, HasVector, HasGradient}

values-Fill : (d : Doc) (x : Item) (z : Bool) (c : Prop Color) (o : Prop ℤ) (r : ℕ) → x ≡ Fill z c o r
    → HasOwnValues d x → HasColor d c × HasScalar d o
unfolding HasOwnValues
values-Fill d x z c o r is h =
    subst (ValuesIn d) (outs-Fill z c o r) (subst (HasOwnValues d) is h)

values-Stroke : (d : Doc) (x : Item) (z : Bool) (c : Prop Color) (o w : Prop ℤ) (lc lj : ℕ) (ml : ℤ) (dashes : List Dash)
    → x ≡ Stroke z c o w lc lj ml dashes → HasOwnValues d x
    → HasColor d c × HasScalar d o × HasScalar d w × DashesHaveValues d dashes
unfolding HasOwnValues
values-Stroke d x z c o w lc lj ml dashes is h =
    subst (ValuesIn d) (outs-Stroke z c o w lc lj ml dashes) (subst (HasOwnValues d) is h)

pub color-Fill : (d : Doc) (x : Item) (z : Bool) (c : Prop Color) (o : Prop ℤ) (r : ℕ) → x ≡ Fill z c o r
    → HasOwnValues d x → HasColor d c
color-Fill d x z c o r is h = (values-Fill d x z c o r is h).0

pub opacity-Fill : (d : Doc) (x : Item) (z : Bool) (c : Prop Color) (o : Prop ℤ) (r : ℕ) → x ≡ Fill z c o r
    → HasOwnValues d x → HasScalar d o
opacity-Fill d x z c o r is h = (values-Fill d x z c o r is h).1

pub color-Stroke : (d : Doc) (x : Item) (z : Bool) (c : Prop Color) (o w : Prop ℤ) (lc lj : ℕ) (ml : ℤ) (dashes : List Dash)
    → x ≡ Stroke z c o w lc lj ml dashes → HasOwnValues d x → HasColor d c
color-Stroke d x z c o w lc lj ml dashes is h = (values-Stroke d x z c o w lc lj ml dashes is h).0

pub opacity-Stroke : (d : Doc) (x : Item) (z : Bool) (c : Prop Color) (o w : Prop ℤ) (lc lj : ℕ) (ml : ℤ) (dashes : List Dash)
    → x ≡ Stroke z c o w lc lj ml dashes → HasOwnValues d x → HasScalar d o
opacity-Stroke d x z c o w lc lj ml dashes is h = (values-Stroke d x z c o w lc lj ml dashes is h).1

pub width-Stroke : (d : Doc) (x : Item) (z : Bool) (c : Prop Color) (o w : Prop ℤ) (lc lj : ℕ) (ml : ℤ) (dashes : List Dash)
    → x ≡ Stroke z c o w lc lj ml dashes → HasOwnValues d x → HasScalar d w
width-Stroke d x z c o w lc lj ml dashes is h = (values-Stroke d x z c o w lc lj ml dashes is h).2

pub dashes-Stroke : (d : Doc) (x : Item) (z : Bool) (c : Prop Color) (o w : Prop ℤ) (lc lj : ℕ) (ml : ℤ) (dashes : List Dash)
    → x ≡ Stroke z c o w lc lj ml dashes → HasOwnValues d x → DashesHaveValues d dashes
dashes-Stroke d x z c o w lc lj ml dashes is h = (values-Stroke d x z c o w lc lj ml dashes is h).3

values-GradientFill : (d : Doc) (x : Item) (z : Bool) (o : Prop ℤ) (s k_e : Prop Point) (k : ℕ) (g : Stops)
    (k_h a : Prop ℤ) (r : ℕ)
    → x ≡ GradientFill z o s k_e k g k_h a r → HasOwnValues d x
    → HasScalar d o × HasVector d s × HasVector d k_e × HasGradient d g.k × HasScalar d k_h × HasScalar d a
unfolding HasOwnValues
values-GradientFill d x z o s k_e k g k_h a r is h =
    subst (ValuesIn d) (outs-GradientFill z o s k_e k g k_h a r) (subst (HasOwnValues d) is h)

pub opacity-GradientFill : (d : Doc) (x : Item) (z : Bool) (o : Prop ℤ) (s k_e : Prop Point) (k : ℕ) (g : Stops)
    (k_h a : Prop ℤ) (r : ℕ)
    → x ≡ GradientFill z o s k_e k g k_h a r → HasOwnValues d x → HasScalar d o
opacity-GradientFill d x z o s k_e k g k_h a r is h =
    (values-GradientFill d x z o s k_e k g k_h a r is h).0

pub gradient-GradientFill : (d : Doc) (x : Item) (z : Bool) (o : Prop ℤ) (s k_e : Prop Point) (k : ℕ) (g : Stops)
    (k_h a : Prop ℤ) (r : ℕ)
    → x ≡ GradientFill z o s k_e k g k_h a r → HasOwnValues d x → HasGradientValues d s k_e g k_h a
gradient-GradientFill d x z o s k_e k g k_h a r is h =
    let values = values-GradientFill d x z o s k_e k g k_h a r is h in
    record { start = values.1; end = values.2; stops = values.3; highlight = values.4; angle = values.5 }

values-GradientStroke : (d : Doc) (x : Item) (z : Bool) (o : Prop ℤ) (s k_e : Prop Point) (k : ℕ) (g : Stops)
    (k_h a w : Prop ℤ) (lc lj : ℕ) (ml : ℤ) (dashes : List Dash)
    → x ≡ GradientStroke z o s k_e k g k_h a w lc lj ml dashes → HasOwnValues d x
    → HasScalar d o × HasVector d s × HasVector d k_e × HasGradient d g.k × HasScalar d k_h × HasScalar d a
    × HasScalar d w × DashesHaveValues d dashes
unfolding HasOwnValues
values-GradientStroke d x z o s k_e k g k_h a w lc lj ml dashes is h =
    subst (ValuesIn d) (outs-GradientStroke z o s k_e k g k_h a w lc lj ml dashes) (subst (HasOwnValues d) is h)

pub opacity-GradientStroke : (d : Doc) (x : Item) (z : Bool) (o : Prop ℤ) (s k_e : Prop Point) (k : ℕ) (g : Stops)
    (k_h a w : Prop ℤ) (lc lj : ℕ) (ml : ℤ) (dashes : List Dash)
    → x ≡ GradientStroke z o s k_e k g k_h a w lc lj ml dashes → HasOwnValues d x → HasScalar d o
opacity-GradientStroke d x z o s k_e k g k_h a w lc lj ml dashes is h =
    (values-GradientStroke d x z o s k_e k g k_h a w lc lj ml dashes is h).0

pub gradient-GradientStroke : (d : Doc) (x : Item) (z : Bool) (o : Prop ℤ) (s k_e : Prop Point) (k : ℕ) (g : Stops)
    (k_h a w : Prop ℤ) (lc lj : ℕ) (ml : ℤ) (dashes : List Dash)
    → x ≡ GradientStroke z o s k_e k g k_h a w lc lj ml dashes → HasOwnValues d x → HasGradientValues d s k_e g k_h a
gradient-GradientStroke d x z o s k_e k g k_h a w lc lj ml dashes is h =
    let values = values-GradientStroke d x z o s k_e k g k_h a w lc lj ml dashes is h in
    record { start = values.1; end = values.2; stops = values.3; highlight = values.4; angle = values.5 }

pub width-GradientStroke : (d : Doc) (x : Item) (z : Bool) (o : Prop ℤ) (s k_e : Prop Point) (k : ℕ) (g : Stops)
    (k_h a w : Prop ℤ) (lc lj : ℕ) (ml : ℤ) (dashes : List Dash)
    → x ≡ GradientStroke z o s k_e k g k_h a w lc lj ml dashes → HasOwnValues d x → HasScalar d w
width-GradientStroke d x z o s k_e k g k_h a w lc lj ml dashes is h =
    (values-GradientStroke d x z o s k_e k g k_h a w lc lj ml dashes is h).6

pub dashes-GradientStroke : (d : Doc) (x : Item) (z : Bool) (o : Prop ℤ) (s k_e : Prop Point) (k : ℕ) (g : Stops)
    (k_h a w : Prop ℤ) (lc lj : ℕ) (ml : ℤ) (dashes : List Dash)
    → x ≡ GradientStroke z o s k_e k g k_h a w lc lj ml dashes → HasOwnValues d x → DashesHaveValues d dashes
dashes-GradientStroke d x z o s k_e k g k_h a w lc lj ml dashes is h =
    (values-GradientStroke d x z o s k_e k g k_h a w lc lj ml dashes is h).7

pub no_style : (x : Item) (kind : ItemKind) → kind_of x ≡ kind → is_style_kind kind ≡ false → is_style x ≡ true → ⊥
unfolding is_style
no_style x kind is not_style h = absurd (cc)

pub ruleset styles = (color-Fill, opacity-Fill, color-Stroke, opacity-Stroke, width-Stroke, dashes-Stroke, opacity-GradientFill, opacity-GradientStroke, width-GradientStroke, dashes-GradientStroke)
