-- The identity as the first factor of a product.
use Rattle.std.proofs.Common.{◌≡◌, ◌∙◌, ℤ, pos, negsuc, ◌-◌, ◌*◌, ◌^◌, ◌+ℤ◌, ◌*ℤ◌, suc, Some, ap, arith}
use Rattle.std.proofs.Math.IntN.{zero-*ℤ}
use Rattle.std.proofs.lemmas.Int.{ints}
use Rattle.lot_geom.proofs.Limits.{limit_of_small}
use Rattle.lot_geom.specs.Matrix.{one_whole, sum_of_products, matrix_product, identity}
use Rattle.lot_num.specs.Round.{rnd, limit}
use Rattle.lot_types.specs.declared.matrix.Matrix.{Matrix}
use Rattle.lot_group.specs.Product.{then_both, HasRange, IsKept}

rnd_of_millionths : (x : ℤ) → rnd (one_whole *ℤ x) one_whole ≡ x
rnd_of_millionths (pos n) = omega (arith, ints)
rnd_of_millionths (negsuc n) =
    let e : one_whole *ℤ negsuc n ≡ negsuc (suc n * 10 ^ 6 - 1) = omega (arith, ints) in
    ap (λ (z : ℤ). rnd z one_whole) e ∙ omega (arith, ints)

zero_plus : (x : ℤ) → pos 0 +ℤ x ≡ x
zero_plus x = omega (arith, ints)

plus_zero : (x : ℤ) → x +ℤ pos 0 ≡ x
plus_zero x = omega (arith, ints)

first_kept : (x y : ℤ) → sum_of_products one_whole x (pos 0) y ≡ x
first_kept x y =
    ap (λ (z : ℤ). rnd (one_whole *ℤ x +ℤ z) one_whole) (zero-*ℤ y) ∙
    (ap (λ (z : ℤ). rnd z one_whole) (plus_zero (one_whole *ℤ x)) ∙ rnd_of_millionths x)

second_kept : (x y : ℤ) → sum_of_products (pos 0) x one_whole y ≡ y
second_kept x y =
    ap (λ (z : ℤ). rnd (z +ℤ one_whole *ℤ y) one_whole) (zero-*ℤ x) ∙
    (ap (λ (z : ℤ). rnd z one_whole) (zero_plus (one_whole *ℤ y)) ∙ rnd_of_millionths y)

neither : (x y z : ℤ) → sum_of_products (pos 0) x (pos 0) y +ℤ z ≡ z
neither x y z =
    (λ i. rnd (zero-*ℤ x i +ℤ zero-*ℤ y i) one_whole +ℤ z) ∙ omega (arith, ints)

identity_first : (m : Matrix) → HasRange m → matrix_product identity m ≡ m
unfolding matrix_product
identity_first m h =
    let a = ap limit (first_kept m.a m.c) ∙ limit_of_small m.a h.a in
    let b = ap limit (first_kept m.b m.d) ∙ limit_of_small m.b h.b in
    let c = ap limit (second_kept m.a m.c) ∙ limit_of_small m.c h.c in
    let d = ap limit (second_kept m.b m.d) ∙ limit_of_small m.d h.d in
    let e = ap limit (neither m.a m.c m.e) ∙ limit_of_small m.e h.e in
    let f = ap limit (neither m.b m.d m.f) ∙ limit_of_small m.f h.f in
    λ i. record { a = a i; b = b i; c = c i; d = d i; e = e i; f = f i }

pub one_factor : (m : Matrix) → HasRange m → IsKept m
unfolding then_both
one_factor m h = ap (λ (z : Matrix). Some z) (identity_first m h)
