-- A translation moves points by its offset.
use Rattle.std.proofs.Common.{◌≡◌, ◌∙◌, ℤ, pos, ◌+ℤ◌, Bool, true, false, ◌&&◌, ap, refl}
use Rattle.std.proofs.lemmas.Bool.Decides.{Decides-int_eq}
use Rattle.std.specs.Ordering.{int_eq}
use Rattle.lot_num.specs.Round.{limit}
use Rattle.lot_types.specs.declared.matrix.Matrix.{Matrix}
use Rattle.lot_types.specs.declared.point.Point.{Point}
use Rattle.lot_types.specs.Points.{point}
use Rattle.lot_geom.specs.Matrix.{one_whole, sum_of_products, mapped, is_translation}
use Rattle.lot_geom.specs.Offset.{moved}
use Rattle.lot_geom.proofs.Turns.{left_kept, right_kept}

both : (x y : Bool) → (x && y) ≡ true → (x ≡ true) × (y ≡ true)
both true y h = (refl, h)
both false y h = absurd (cc)

same : (x y : ℤ) → int_eq x y ≡ true → x ≡ y
same x y h = (Decides-int_eq x y).0 h

-- A coordinate of a point, where the map keeps this coordinate.
left : (x y a c : ℤ) → a ≡ one_whole → c ≡ pos 0 → sum_of_products x a y c ≡ x
left x y a c e f =
    ap (λ (z : ℤ). sum_of_products x z y c) e ∙ ap (λ (z : ℤ). sum_of_products x one_whole y z) f ∙ left_kept x y

right : (x y b d : ℤ) → b ≡ pos 0 → d ≡ one_whole → sum_of_products x b y d ≡ y
right x y b d e f =
    ap (λ (z : ℤ). sum_of_products x z y d) e ∙ ap (λ (z : ℤ). sum_of_products x (pos 0) y z) f ∙ right_kept x y

same_point : (x y u v : ℤ) → x ≡ u → y ≡ v → point x y ≡ point u v
same_point x y u v e f = cc

pub translated : (m : Matrix) (p : Point) → is_translation m ≡ true → mapped m p ≡ moved p (point m.e m.f)
unfolding mapped
translated m p h =
    let a = int_eq m.a one_whole in
    let b = int_eq m.b (pos 0) in
    let c = int_eq m.c (pos 0) in
    let three = both (a && b && c) (int_eq m.d one_whole) h in
    let two = both (a && b) c three.0 in
    let one = both a b two.0 in
    same_point _ _ _ _
    (ap (λ (z : ℤ). limit (z +ℤ m.e)) (left p.x p.y m.a m.c (same m.a one_whole one.0) (same m.c (pos 0) two.1)))
    (ap (λ (z : ℤ). limit (z +ℤ m.f)) (right p.x p.y m.b m.d (same m.b (pos 0) one.1) (same m.d one_whole three.1)))
