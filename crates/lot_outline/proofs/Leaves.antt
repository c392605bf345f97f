-- What each variant of an item has as a shape.
use Rattle.std.proofs.Common.{◌≡◌, ◌∙◌, ℕ, ℤ, Bool, true, false, Option, ap, subst}
use Rattle.std.specs.Prelude.{option_map}
use Rattle.lot_types.specs.declared.doc.Doc.{Doc}
use Rattle.lot_types.specs.declared.item.Item.{Item, out-Item}
use Rattle.lot_types.specs.declared.item.Item.TheVariants.{Rect, Ellipse, Star, Path, outs-Rect, outs-Ellipse, outs-Star, outs-Path}
use Rattle.lot_types.specs.declared.point.Point.{Point}
use Rattle.lot_types.specs.declared.prop.Prop.{Prop}
use Rattle.lot_types.specs.Curve.{Curve}
use Rattle.lot_types.specs.Items.{HasOwnValues, ValuesIn, ItemKind, kind_of, is_leaf, is_leaf_kind}
use Rattle.lot_types.specs.PropertyValues.{PropertyValues}
use Rattle.lot_types.specs.Slots.{HasScalar, HasVector, HasBezier}
use Rattle.lot_outline.specs.Leaf.{leaf_contours, contours_in, rectangle_contours, ellipse_contours, polystar_contours, contours_of_path}
use Rattle.lot_outline.specs.Reversed.{directed}

-- ---- the contours

pub contours-Rect : (values : PropertyValues) (doc : Doc) (z : Bool) (p s : Prop Point) (r : Prop ℤ) (d : Option ℤ)
    (t : ℤ)
    → leaf_contours values doc (Rect z p s r d) t ≡ option_map (directed d) (rectangle_contours values doc p s r t)
unfolding leaf_contours
contours-Rect values doc z p s r d t = ap (λ x. contours_in values doc x t) (outs-Rect z p s r d)

pub contours-Ellipse : (values : PropertyValues) (doc : Doc) (z : Bool) (p s : Prop Point) (d : Option ℤ) (t : ℤ)
    → leaf_contours values doc (Ellipse z p s d) t ≡ option_map (directed d) (ellipse_contours values doc p s t)
unfolding leaf_contours
contours-Ellipse values doc z p s d t = ap (λ x. contours_in values doc x t) (outs-Ellipse z p s d)

pub contours-Star : (values : PropertyValues) (doc : Doc) (z : Bool) (sy : ℕ) (pt : Prop ℤ) (p : Prop Point)
    (r or_ os ir is_ : Prop ℤ) (d : Option ℤ) (t : ℤ)
    → leaf_contours values doc (Star z sy pt p r or_ os ir is_ d) t
    ≡ option_map (directed d) (polystar_contours values doc sy pt p r or_ os ir is_ t)
unfolding leaf_contours
contours-Star values doc z sy pt p r or_ os ir is_ d t =
    ap (λ x. contours_in values doc x t) (outs-Star z sy pt p r or_ os ir is_ d)

pub contours-Path : (values : PropertyValues) (doc : Doc) (z : Bool) (ks : Prop Curve) (d : Option ℤ) (t : ℤ)
    → leaf_contours values doc (Path z ks d) t ≡ option_map (directed d) (contours_of_path values doc ks t)
unfolding leaf_contours
contours-Path values doc z ks d t = ap (λ x. contours_in values doc x t) (outs-Path z ks d)

pub ruleset leaf_rules = (contours-Rect, contours-Ellipse, contours-Star, contours-Path)

-- ---- the values of its properties

pub values-Rect : (doc : Doc) (leaf : Item) (z : Bool) (p s : Prop Point) (r : Prop ℤ) (d : Option ℤ)
    → leaf ≡ Rect z p s r d → HasOwnValues doc leaf → HasVector doc p × HasVector doc s × HasScalar doc r
unfolding HasOwnValues
values-Rect doc leaf z p s r d is h = subst (ValuesIn doc) (ap out-Item is ∙ outs-Rect z p s r d) h

pub values-Ellipse : (doc : Doc) (leaf : Item) (z : Bool) (p s : Prop Point) (d : Option ℤ)
    → leaf ≡ Ellipse z p s d → HasOwnValues doc leaf → HasVector doc p × HasVector doc s
unfolding HasOwnValues
values-Ellipse doc leaf z p s d is h = subst (ValuesIn doc) (ap out-Item is ∙ outs-Ellipse z p s d) h

pub values-Star : (doc : Doc) (leaf : Item) (z : Bool) (sy : ℕ) (pt : Prop ℤ) (p : Prop Point)
    (r or_ os ir is_ : Prop ℤ) (d : Option ℤ) → leaf ≡ Star z sy pt p r or_ os ir is_ d → HasOwnValues doc leaf
    → HasScalar doc pt × HasVector doc p × HasScalar doc r × HasScalar doc or_ × HasScalar doc os × HasScalar doc ir
    × HasScalar doc is_
unfolding HasOwnValues
values-Star doc leaf z sy pt p r or_ os ir is_ d is h =
    subst (ValuesIn doc) (ap out-Item is ∙ outs-Star z sy pt p r or_ os ir is_ d) h

pub values-Path : (doc : Doc) (leaf : Item) (z : Bool) (ks : Prop Curve) (d : Option ℤ)
    → leaf ≡ Path z ks d → HasOwnValues doc leaf → HasBezier doc ks
unfolding HasOwnValues
values-Path doc leaf z ks d is h = subst (ValuesIn doc) (ap out-Item is ∙ outs-Path z ks d) h

-- ---- items that are no shapes

pub no_leaf : (leaf x : Item) (kind : ItemKind) → leaf ≡ x → kind_of x ≡ kind → is_leaf_kind kind ≡ false
    → is_leaf leaf ≡ true → ⊥
unfolding is_leaf
no_leaf leaf x kind is kind_is none h = absurd (cc (is, kind_is, none, h))
