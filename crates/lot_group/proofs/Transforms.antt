-- The transform that each variant of an item gives.
use Rattle.std.proofs.Common.{◌≡◌, ℕ, ℤ, Bool, true, false, List, ap}
use Rattle.std.specs.Prelude.{Option, Some, None}
use Rattle.lot_types.specs.declared.color.Color.{Color}
use Rattle.lot_types.specs.declared.dash.Dash.{Dash}
use Rattle.lot_types.specs.declared.item.Item.{Item}
use Rattle.lot_types.specs.declared.item.Item.TheVariants.{Group, Rect, Ellipse, Star, Path, Fill, Stroke, GradientFill, GradientStroke, Trim, Place, outs-Group, outs-Rect, outs-Ellipse, outs-Star, outs-Path, outs-Fill, outs-Stroke, outs-GradientFill, outs-GradientStroke, outs-Trim, outs-Place}
use Rattle.lot_types.specs.declared.point.Point.{Point}
use Rattle.lot_types.specs.declared.prop.Prop.{Prop}
use Rattle.lot_types.specs.declared.stops.Stops.{Stops}
use Rattle.lot_types.specs.declared.transform.Transform.{Transform}
use Rattle.lot_types.specs.Curve.{Curve}
use Rattle.lot_group.specs.Group.{transform_in, given_transform}

pub transform-Group : (z : Bool) (it : List Item) →
    given_transform (Group z it) ≡ None
unfolding given_transform
transform-Group z it = ap transform_in (outs-Group z it)

pub transform-Rect : (z : Bool) (p s : Prop Point) (r : Prop ℤ) (d : Option ℤ) →
    given_transform (Rect z p s r d) ≡ None
unfolding given_transform
transform-Rect z p s r d = ap transform_in (outs-Rect z p s r d)

pub transform-Ellipse : (z : Bool) (p s : Prop Point) (d : Option ℤ) →
    given_transform (Ellipse z p s d) ≡ None
unfolding given_transform
transform-Ellipse z p s d = ap transform_in (outs-Ellipse z p s d)

pub transform-Star : (z : Bool) (sy : ℕ) (pt : Prop ℤ) (p : Prop Point) (r or_ os ir is_ : Prop ℤ) (d : Option ℤ) →
    given_transform (Star z sy pt p r or_ os ir is_ d) ≡ None
unfolding given_transform
transform-Star z sy pt p r or_ os ir is_ d = ap transform_in (outs-Star z sy pt p r or_ os ir is_ d)

pub transform-Path : (z : Bool) (ks : Prop Curve) (d : Option ℤ) →
    given_transform (Path z ks d) ≡ None
unfolding given_transform
transform-Path z ks d = ap transform_in (outs-Path z ks d)

pub transform-Fill : (z : Bool) (c : Prop Color) (o : Prop ℤ) (r : ℕ) →
    given_transform (Fill z c o r) ≡ None
unfolding given_transform
transform-Fill z c o r = ap transform_in (outs-Fill z c o r)

pub transform-Stroke : (z : Bool) (c : Prop Color) (o w : Prop ℤ) (lc lj : ℕ) (ml : ℤ) (d : List Dash) →
    given_transform (Stroke z c o w lc lj ml d) ≡ None
unfolding given_transform
transform-Stroke z c o w lc lj ml d = ap transform_in (outs-Stroke z c o w lc lj ml d)

pub transform-GradientFill : (z : Bool) (o : Prop ℤ) (s k_e : Prop Point) (t : ℕ) (g : Stops) (k_h a : Prop ℤ) (r : ℕ) →
    given_transform (GradientFill z o s k_e t g k_h a r) ≡ None
unfolding given_transform
transform-GradientFill z o s k_e t g k_h a r = ap transform_in (outs-GradientFill z o s k_e t g k_h a r)

pub transform-GradientStroke : (z : Bool) (o : Prop ℤ) (s k_e : Prop Point) (t : ℕ) (g : Stops) (k_h a w : Prop ℤ)
    (lc lj : ℕ) (ml : ℤ) (d : List Dash) →
    given_transform (GradientStroke z o s k_e t g k_h a w lc lj ml d) ≡ None
unfolding given_transform
transform-GradientStroke z o s k_e t g k_h a w lc lj ml d =
    ap transform_in (outs-GradientStroke z o s k_e t g k_h a w lc lj ml d)

pub transform-Trim : (z : Bool) (s k_e o : Prop ℤ) (m : ℕ) →
    given_transform (Trim z s k_e o m) ≡ None
unfolding given_transform
transform-Trim z s k_e o m = ap transform_in (outs-Trim z s k_e o m)

pub shown-Place : (ks : Transform) → given_transform (Place false ks) ≡ Some ks
unfolding given_transform
shown-Place ks = ap transform_in (outs-Place false ks)

pub hidden-Place : (ks : Transform) → given_transform (Place true ks) ≡ None
unfolding given_transform
hidden-Place ks = ap transform_in (outs-Place true ks)

pub ruleset transforms = (transform-Group, transform-Rect, transform-Ellipse, transform-Star, transform-Path, transform-Fill, transform-Stroke, transform-GradientFill, transform-GradientStroke, transform-Trim, shown-Place, hidden-Place)
