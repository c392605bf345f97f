-- What each variant of an item is.
use Rattle.std.proofs.Common.{◌≡◌, ℕ, ℤ, Bool, List, ap}
use Rattle.std.specs.Prelude.{Option}
use Rattle.lot_types.specs.declared.color.Color.{Color}
use Rattle.lot_types.specs.declared.dash.Dash.{Dash}
use Rattle.lot_types.specs.declared.item.Item.{Item}
use Rattle.lot_types.specs.declared.item.Item.TheVariants.{Group, Rect, Ellipse, Star, Path, Fill, Stroke, GradientFill, GradientStroke, Trim, Place, outs-Group, outs-Rect, outs-Ellipse, outs-Star, outs-Path, outs-Fill, outs-Stroke, outs-GradientFill, outs-GradientStroke, outs-Trim, outs-Place}
use Rattle.lot_types.specs.declared.point.Point.{Point}
use Rattle.lot_types.specs.declared.prop.Prop.{Prop}
use Rattle.lot_types.specs.declared.stops.Stops.{Stops}
use Rattle.lot_types.specs.declared.transform.Transform.{Transform}
use Rattle.lot_types.specs.Curve.{Curve}
use Rattle.lot_types.specs.Items.{group, leaf, style, trim, transform, kind_of, kind_in, is_hidden, hidden_in}

pub kind-Group : (z : Bool) (it : List Item) → kind_of (Group z it) ≡ group
unfolding kind_of
kind-Group z it = ap kind_in (outs-Group z it)

pub hidden-Group : (z : Bool) (it : List Item) → is_hidden (Group z it) ≡ z
unfolding is_hidden
hidden-Group z it = ap hidden_in (outs-Group z it)

pub kind-Rect : (z : Bool) (p s : Prop Point) (r : Prop ℤ) (d : Option ℤ) → kind_of (Rect z p s r d) ≡ leaf
unfolding kind_of
kind-Rect z p s r d = ap kind_in (outs-Rect z p s r d)

pub hidden-Rect : (z : Bool) (p s : Prop Point) (r : Prop ℤ) (d : Option ℤ) → is_hidden (Rect z p s r d) ≡ z
unfolding is_hidden
hidden-Rect z p s r d = ap hidden_in (outs-Rect z p s r d)

pub kind-Ellipse : (z : Bool) (p s : Prop Point) (d : Option ℤ) → kind_of (Ellipse z p s d) ≡ leaf
unfolding kind_of
kind-Ellipse z p s d = ap kind_in (outs-Ellipse z p s d)

pub hidden-Ellipse : (z : Bool) (p s : Prop Point) (d : Option ℤ) → is_hidden (Ellipse z p s d) ≡ z
unfolding is_hidden
hidden-Ellipse z p s d = ap hidden_in (outs-Ellipse z p s d)

pub kind-Star : (z : Bool) (sy : ℕ) (pt : Prop ℤ) (p : Prop Point) (r or_ os ir is_ : Prop ℤ) (d : Option ℤ) → kind_of (Star z sy pt p r or_ os ir is_ d) ≡ leaf
unfolding kind_of
kind-Star z sy pt p r or_ os ir is_ d = ap kind_in (outs-Star z sy pt p r or_ os ir is_ d)

pub hidden-Star : (z : Bool) (sy : ℕ) (pt : Prop ℤ) (p : Prop Point) (r or_ os ir is_ : Prop ℤ) (d : Option ℤ) → is_hidden (Star z sy pt p r or_ os ir is_ d) ≡ z
unfolding is_hidden
hidden-Star z sy pt p r or_ os ir is_ d = ap hidden_in (outs-Star z sy pt p r or_ os ir is_ d)

pub kind-Path : (z : Bool) (ks : Prop Curve) (d : Option ℤ) → kind_of (Path z ks d) ≡ leaf
unfolding kind_of
kind-Path z ks d = ap kind_in (outs-Path z ks d)

pub hidden-Path : (z : Bool) (ks : Prop Curve) (d : Option ℤ) → is_hidden (Path z ks d) ≡ z
unfolding is_hidden
hidden-Path z ks d = ap hidden_in (outs-Path z ks d)

pub kind-Fill : (z : Bool) (c : Prop Color) (o : Prop ℤ) (r : ℕ) → kind_of (Fill z c o r) ≡ style
unfolding kind_of
kind-Fill z c o r = ap kind_in (outs-Fill z c o r)

pub hidden-Fill : (z : Bool) (c : Prop Color) (o : Prop ℤ) (r : ℕ) → is_hidden (Fill z c o r) ≡ z
unfolding is_hidden
hidden-Fill z c o r = ap hidden_in (outs-Fill z c o r)

pub kind-Stroke : (z : Bool) (c : Prop Color) (o w : Prop ℤ) (lc lj : ℕ) (ml : ℤ) (d : List Dash) → kind_of (Stroke z c o w lc lj ml d) ≡ style
unfolding kind_of
kind-Stroke z c o w lc lj ml d = ap kind_in (outs-Stroke z c o w lc lj ml d)

pub hidden-Stroke : (z : Bool) (c : Prop Color) (o w : Prop ℤ) (lc lj : ℕ) (ml : ℤ) (d : List Dash) → is_hidden (Stroke z c o w lc lj ml d) ≡ z
unfolding is_hidden
hidden-Stroke z c o w lc lj ml d = ap hidden_in (outs-Stroke z c o w lc lj ml d)

pub kind-GradientFill : (z : Bool) (o : Prop ℤ) (s k_e : Prop Point) (t : ℕ) (g : Stops) (k_h a : Prop ℤ) (r : ℕ) → kind_of (GradientFill z o s k_e t g k_h a r) ≡ style
unfolding kind_of
kind-GradientFill z o s k_e t g k_h a r = ap kind_in (outs-GradientFill z o s k_e t g k_h a r)

pub hidden-GradientFill : (z : Bool) (o : Prop ℤ) (s k_e : Prop Point) (t : ℕ) (g : Stops) (k_h a : Prop ℤ) (r : ℕ) → is_hidden (GradientFill z o s k_e t g k_h a r) ≡ z
unfolding is_hidden
hidden-GradientFill z o s k_e t g k_h a r = ap hidden_in (outs-GradientFill z o s k_e t g k_h a r)

pub kind-GradientStroke : (z : Bool) (o : Prop ℤ) (s k_e : Prop Point) (t : ℕ) (g : Stops) (k_h a w : Prop ℤ) (lc lj : ℕ) (ml : ℤ) (d : List Dash) → kind_of (GradientStroke z o s k_e t g k_h a w lc lj ml d) ≡ style
unfolding kind_of
kind-GradientStroke z o s k_e t g k_h a w lc lj ml d = ap kind_in (outs-GradientStroke z o s k_e t g k_h a w lc lj ml d)

pub hidden-GradientStroke : (z : Bool) (o : Prop ℤ) (s k_e : Prop Point) (t : ℕ) (g : Stops) (k_h a w : Prop ℤ) (lc lj : ℕ) (ml : ℤ) (d : List Dash) → is_hidden (GradientStroke z o s k_e t g k_h a w lc lj ml d) ≡ z
unfolding is_hidden
hidden-GradientStroke z o s k_e t g k_h a w lc lj ml d = ap hidden_in (outs-GradientStroke z o s k_e t g k_h a w lc lj ml d)

pub kind-Trim : (z : Bool) (s k_e o : Prop ℤ) (m : ℕ) → kind_of (Trim z s k_e o m) ≡ trim
unfolding kind_of
kind-Trim z s k_e o m = ap kind_in (outs-Trim z s k_e o m)

pub hidden-Trim : (z : Bool) (s k_e o : Prop ℤ) (m : ℕ) → is_hidden (Trim z s k_e o m) ≡ z
unfolding is_hidden
hidden-Trim z s k_e o m = ap hidden_in (outs-Trim z s k_e o m)

pub kind-Place : (z : Bool) (ks : Transform) → kind_of (Place z ks) ≡ transform
unfolding kind_of
kind-Place z ks = ap kind_in (outs-Place z ks)

pub hidden-Place : (z : Bool) (ks : Transform) → is_hidden (Place z ks) ≡ z
unfolding is_hidden
hidden-Place z ks = ap hidden_in (outs-Place z ks)

pub ruleset kinds = (kind-Group, kind-Rect, kind-Ellipse, kind-Star, kind-Path, kind-Fill, kind-Stroke, kind-GradientFill, kind-GradientStroke, kind-Trim, kind-Place)

pub ruleset hidden_kinds = (hidden-Group, hidden-Rect, hidden-Ellipse, hidden-Star, hidden-Path, hidden-Fill, hidden-Stroke, hidden-GradientFill, hidden-GradientStroke, hidden-Trim, hidden-Place)
