-- The kind of an item that is one of several variants.
use Rattle.std.proofs.Common.{◌≡◌, ℕ, ℤ, Bool, List, Option, ap, ◌∙◌, ◌⊎◌, inl, inr}
use Rattle.lot_types.specs.declared.color.Color.{Color}
use Rattle.lot_types.specs.declared.dash.Dash.{Dash}
use Rattle.lot_types.specs.declared.item.Item.{Item}
use Rattle.lot_types.specs.declared.item.Item.TheVariants.{Rect, Ellipse, Star, Path, Fill, Stroke, GradientFill, GradientStroke}
use Rattle.lot_types.specs.declared.point.Point.{Point}
use Rattle.lot_types.specs.declared.prop.Prop.{Prop}
use Rattle.lot_types.specs.declared.stops.Stops.{Stops}
use Rattle.lot_types.specs.Curve.{Curve}
use Rattle.lot_types.specs.Items.{leaf, style, kind_of}
use Rattle.lot_types.proofs.Variants.{kind-Rect, kind-Ellipse, kind-Star, kind-Path, kind-Fill, kind-Stroke, kind-GradientFill, kind-GradientStroke}

pub leaf-one_of : (x : Item) →
    ((z : Bool) × (p : Prop Point) × (s : Prop Point) × (r : Prop ℤ) × (d : Option ℤ) × (x ≡ Rect z p s r d)) ⊎ (
    ((z : Bool) × (p : Prop Point) × (s : Prop Point) × (d : Option ℤ) × (x ≡ Ellipse z p s d)) ⊎ (
    ((z : Bool) × (sy : ℕ) × (pt : Prop ℤ) × (p : Prop Point) × (r : Prop ℤ) × (or_ : Prop ℤ) × (os : Prop
    ℤ) × (ir : Prop ℤ) × (is_ : Prop ℤ) × (d : Option ℤ) × (x ≡ Star z sy pt p r or_ os ir is_ d)) ⊎ (
    ((z : Bool) × (ks : Prop Curve) × (d : Option ℤ) × (x ≡ Path z ks d))))) →
    kind_of x ≡ leaf
leaf-one_of x (inl p) = ap kind_of p.5 ∙ kind-Rect p.0 p.1 p.2 p.3 p.4
leaf-one_of x (inr (inl p)) = ap kind_of p.4 ∙ kind-Ellipse p.0 p.1 p.2 p.3
leaf-one_of x (inr (inr (inl p))) = ap kind_of p.10 ∙ kind-Star p.0 p.1 p.2 p.3 p.4 p.5 p.6 p.7 p.8 p.9
leaf-one_of x (inr (inr (inr p))) = ap kind_of p.3 ∙ kind-Path p.0 p.1 p.2

pub style-one_of : (x : Item) →
    ((z : Bool) × (c : Prop Color) × (o : Prop ℤ) × (r : ℕ) × (x ≡ Fill z c o r)) ⊎ (
    ((z : Bool) × (c : Prop Color) × (o : Prop ℤ) × (w : Prop ℤ) × (lc : ℕ) × (lj : ℕ) × (ml : ℤ) × (d : List
    Dash) × (x ≡ Stroke z c o w lc lj ml d)) ⊎ (
    ((z : Bool) × (o : Prop ℤ) × (s : Prop Point) × (k_e : Prop Point) × (t : ℕ) × (g : Stops) × (k_h : Prop
    ℤ) × (a : Prop ℤ) × (r : ℕ) × (x ≡ GradientFill z o s k_e t g k_h a r)) ⊎ (
    ((z : Bool) × (o : Prop ℤ) × (s : Prop Point) × (k_e : Prop Point) × (t : ℕ) × (g : Stops) × (k_h : Prop
    ℤ) × (a : Prop ℤ) × (w : Prop ℤ) × (lc : ℕ) × (lj : ℕ) × (ml : ℤ) × (d : List Dash) × (x ≡ GradientStroke z o s
    k_e t g k_h a w lc lj ml d))))) →
    kind_of x ≡ style
style-one_of x (inl p) = ap kind_of p.4 ∙ kind-Fill p.0 p.1 p.2 p.3
style-one_of x (inr (inl p)) = ap kind_of p.8 ∙ kind-Stroke p.0 p.1 p.2 p.3 p.4 p.5 p.6 p.7
style-one_of x (inr (inr (inl p))) = ap kind_of p.9 ∙ kind-GradientFill p.0 p.1 p.2 p.3 p.4 p.5 p.6 p.7 p.8
style-one_of x (inr (inr (inr p))) =
    ap kind_of p.13 ∙ kind-GradientStroke p.0 p.1 p.2 p.3 p.4 p.5 p.6 p.7 p.8 p.9 p.10 p.11 p.12
