-- The list of each variant of an item.
use Rattle.std.proofs.Common.{◌≡◌, ℕ, ℤ, Bool, List, [], ap}
use Rattle.std.specs.Prelude.{Option}
use Rattle.lot_types.specs.declared.color.Color.{Color}
use Rattle.lot_types.specs.declared.dash.Dash.{Dash}
use Rattle.lot_types.specs.declared.item.Item.{Item}
use Rattle.lot_types.specs.declared.item.Item.TheVariants.{Group, Rect, Ellipse, Star, Path, Fill, Stroke, GradientFill, GradientStroke, Trim, Place, outs-Group, outs-Rect, outs-Ellipse, outs-Star, outs-Path, outs-Fill, outs-Stroke, outs-GradientFill, outs-GradientStroke, outs-Trim, outs-Place}
use Rattle.lot_types.specs.declared.point.Point.{Point}
use Rattle.lot_types.specs.declared.prop.Prop.{Prop}
use Rattle.lot_types.specs.declared.stops.Stops.{Stops}
use Rattle.lot_types.specs.declared.transform.Transform.{Transform}
use Rattle.lot_types.specs.Curve.{Curve}
use Rattle.lot_group.specs.Place.{list_in, items_of}

pub list-Group : (z : Bool) (it : List Item) →
    items_of (Group z it) ≡ it
unfolding items_of
list-Group z it = ap list_in (outs-Group z it)

pub list-Rect : (z : Bool) (p s : Prop Point) (r : Prop ℤ) (d : Option ℤ) →
    items_of (Rect z p s r d) ≡ []
unfolding items_of
list-Rect z p s r d = ap list_in (outs-Rect z p s r d)

pub list-Ellipse : (z : Bool) (p s : Prop Point) (d : Option ℤ) →
    items_of (Ellipse z p s d) ≡ []
unfolding items_of
list-Ellipse z p s d = ap list_in (outs-Ellipse z p s d)

pub list-Star : (z : Bool) (sy : ℕ) (pt : Prop ℤ) (p : Prop Point) (r or_ os ir is_ : Prop ℤ) (d : Option ℤ) →
    items_of (Star z sy pt p r or_ os ir is_ d) ≡ []
unfolding items_of
list-Star z sy pt p r or_ os ir is_ d = ap list_in (outs-Star z sy pt p r or_ os ir is_ d)

pub list-Path : (z : Bool) (ks : Prop Curve) (d : Option ℤ) →
    items_of (Path z ks d) ≡ []
unfolding items_of
list-Path z ks d = ap list_in (outs-Path z ks d)

pub list-Fill : (z : Bool) (c : Prop Color) (o : Prop ℤ) (r : ℕ) →
    items_of (Fill z c o r) ≡ []
unfolding items_of
list-Fill z c o r = ap list_in (outs-Fill z c o r)

pub list-Stroke : (z : Bool) (c : Prop Color) (o w : Prop ℤ) (lc lj : ℕ) (ml : ℤ) (d : List Dash) →
    items_of (Stroke z c o w lc lj ml d) ≡ []
unfolding items_of
list-Stroke z c o w lc lj ml d = ap list_in (outs-Stroke z c o w lc lj ml d)

pub list-GradientFill : (z : Bool) (o : Prop ℤ) (s k_e : Prop Point) (t : ℕ) (g : Stops) (k_h a : Prop ℤ) (r : ℕ) →
    items_of (GradientFill z o s k_e t g k_h a r) ≡ []
unfolding items_of
list-GradientFill z o s k_e t g k_h a r = ap list_in (outs-GradientFill z o s k_e t g k_h a r)

pub list-GradientStroke : (z : Bool) (o : Prop ℤ) (s k_e : Prop Point) (t : ℕ) (g : Stops) (k_h a w : Prop ℤ)
    (lc lj : ℕ) (ml : ℤ) (d : List Dash) →
    items_of (GradientStroke z o s k_e t g k_h a w lc lj ml d) ≡ []
unfolding items_of
list-GradientStroke z o s k_e t g k_h a w lc lj ml d = ap list_in (outs-GradientStroke z o s k_e t g k_h a w lc lj ml d)

pub list-Trim : (z : Bool) (s k_e o : Prop ℤ) (m : ℕ) →
    items_of (Trim z s k_e o m) ≡ []
unfolding items_of
list-Trim z s k_e o m = ap list_in (outs-Trim z s k_e o m)

pub list-Place : (z : Bool) (ks : Transform) →
    items_of (Place z ks) ≡ []
unfolding items_of
list-Place z ks = ap list_in (outs-Place z ks)

pub ruleset lists = (list-Group, list-Rect, list-Ellipse, list-Star, list-Path, list-Fill, list-Stroke, list-GradientFill, list-GradientStroke, list-Trim, list-Place)
