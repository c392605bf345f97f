-- Products with rotations. That with the rotation by 0 is the map itself.
use Rattle.std.proofs.Common.{◌≡◌, ◌∙◌, false, ℤ, pos, negsuc, neg_ℤ, ◌-◌, ◌*◌, ◌^◌, ◌+ℤ◌, ◌*ℤ◌, ◌≤◌, suc, unsigned_abs, ap, arith}
use Rattle.std.proofs.Math.IntN.{*ℤ-zero}
use Rattle.std.proofs.lemmas.Int.{ints}
use Rattle.std.specs.Ordering.{int_eq}
use Rattle.lot_num.specs.Round.{rnd, limit, max_millionths}
use Rattle.lot_num.proofs.Straight.{sine_of_zero, cosine_of_zero}
use Rattle.lot_types.specs.declared.matrix.Matrix.{Matrix}
use Rattle.lot_geom.specs.Matrix.{one_whole, sum_of_products, matrix_product, rotation, shear, skewed, identity}
use Rattle.lot_geom.proofs.Limits.{limit_of_small}

rnd_of_millionths : (x : ℤ) → rnd (x *ℤ one_whole) one_whole ≡ x
rnd_of_millionths (pos n) = omega (arith, ints)
rnd_of_millionths (negsuc n) =
    let e : negsuc n *ℤ one_whole ≡ negsuc (suc n * 10 ^ 6 - 1) = omega (arith, ints) in
    ap (λ (z : ℤ). rnd z one_whole) e ∙ omega (arith, ints)

zero_plus : (x : ℤ) → pos 0 +ℤ x ≡ x
zero_plus x = omega (arith, ints)

plus_zero : (x : ℤ) → x +ℤ pos 0 ≡ x
plus_zero x = omega (arith, ints)

pub left_kept : (x y : ℤ) → sum_of_products x one_whole y (pos 0) ≡ x
left_kept x y =
    ap (λ (z : ℤ). rnd (x *ℤ one_whole +ℤ z) one_whole) (*ℤ-zero y)
    ∙ ap (λ (z : ℤ). rnd z one_whole) (plus_zero (x *ℤ one_whole)) ∙ rnd_of_millionths x

pub right_kept : (x y : ℤ) → sum_of_products x (pos 0) y one_whole ≡ y
right_kept x y =
    ap (λ (z : ℤ). rnd (z +ℤ y *ℤ one_whole) one_whole) (*ℤ-zero x)
    ∙ ap (λ (z : ℤ). rnd z one_whole) (zero_plus (y *ℤ one_whole)) ∙ rnd_of_millionths y

-- The coefficients are in range.
pub record HasRange (m : Matrix) : Type 0 where
  pub a : unsigned_abs m.a ≤ max_millionths
  pub b : unsigned_abs m.b ≤ max_millionths
  pub c : unsigned_abs m.c ≤ max_millionths
  pub d : unsigned_abs m.d ≤ max_millionths
  pub e : unsigned_abs m.e ≤ max_millionths
  pub f : unsigned_abs m.f ≤ max_millionths

rotation_by_zero : rotation (pos 0) ≡ identity
rotation_by_zero = cc (sine_of_zero, cosine_of_zero)

abbrev matrix : ℤ → ℤ → ℤ → ℤ → ℤ → ℤ → Matrix
matrix a b c d e f = record { a = a; b = b; c = c; d = d; e = e; f = f }

same_matrix : (m : Matrix) (a b c d e f : ℤ) → a ≡ m.a → b ≡ m.b → c ≡ m.c → d ≡ m.d → e ≡ m.e → f ≡ m.f
    → matrix a b c d e f ≡ matrix m.a m.b m.c m.d m.e m.f
same_matrix m a b c d e f p q r s t u = cc

product_identity : (m : Matrix) → HasRange m → matrix_product m identity ≡ m
unfolding matrix_product
product_identity m h = same_matrix m _ _ _ _ _ _
    (ap limit (left_kept m.a m.b) ∙ limit_of_small m.a h.a)
    (ap limit (right_kept m.a m.b) ∙ limit_of_small m.b h.b)
    (ap limit (left_kept m.c m.d) ∙ limit_of_small m.c h.c)
    (ap limit (right_kept m.c m.d) ∙ limit_of_small m.d h.d)
    (ap limit (plus_zero (sum_of_products m.e one_whole m.f (pos 0)) ∙ left_kept m.e m.f) ∙ limit_of_small m.e h.e)
    (ap limit (plus_zero (sum_of_products m.e (pos 0) m.f one_whole) ∙ right_kept m.e m.f) ∙ limit_of_small m.f h.f)

pub turned_by_zero : (m : Matrix) (r : ℤ) → HasRange m → r ≡ pos 0 → m ≡ matrix_product m (rotation r)
turned_by_zero m r h e = cc (product_identity m h, rotation_by_zero, e)

pub skewed_is : (m : Matrix) (sk sa opposite : ℤ) (r1 p1 s p2 r2 p3 : Matrix) → int_eq sk (pos 0) ≡ false
    → r1 ≡ rotation sa → p1 ≡ matrix_product m r1 → s ≡ shear sk → p2 ≡ matrix_product p1 s
    → opposite ≡ neg_ℤ sa → r2 ≡ rotation opposite → p3 ≡ matrix_product p2 r2
    → p3 ≡ skewed m sk sa
skewed_is m sk sa opposite r1 p1 s p2 r2 p3 some a b d e f g h = cc
