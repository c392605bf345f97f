-- Sums of products in 128 bits, as the code makes them.
use Rattle.std.proofs.Common.{◌≡◌, ◌∙◌, ℕ, ℤ, pos, to_z, of_z, ◌*◌, ◌^◌, ◌≤◌, ◌+ℤ◌, ◌*ℤ◌, unsigned_abs, ap, sym, subst, arith, FitsSigned}
use Rattle.std.proofs.lemmas.Int.{ints, to_z-of_z, to_z_pos}
use Rattle.std.specs.Int.{w128}
use Rattle.lot_geom.specs.Cubic.{weighted_mean}
use Rattle.lot_geom.specs.Matrix.{one_whole, sum_of_products}
use Rattle.lot_num.specs.Round.{rnd, limit}

pub sum_is : (q a b x y u v : ℤ) → q ≡ rnd (a +ℤ b) one_whole → a ≡ x *ℤ y → b ≡ u *ℤ v → q ≡ sum_of_products x y u v
sum_is q a b x y u v rounded first second = cc

-- ---- four coordinates with their weights

-- A number as its bits show it.
abbrev cast : ℤ → ℤ
cast x = to_z w128 (of_z w128 x)

abbrev sum_of_three : ℤ → ℤ → ℤ → ℤ
sum_of_three a b c = cast (cast a +ℤ cast b) +ℤ cast c

abbrev sum_of_four : ℤ → ℤ → ℤ → ℤ → ℤ
sum_of_four a b c d = cast (sum_of_three a b c) +ℤ cast d

abbrev IsWeighted : ℤ → Type 0
IsWeighted x = unsigned_abs x ≤ 10 ^ 13 * 2 ^ 50

cast_small : (x : ℤ) → unsigned_abs x ≤ 10 ^ 37 → cast x ≡ x
cast_small x h = to_z-of_z w128 x (omega (arith, ints, h))

sum_of_three_is : (a b c : ℤ) → IsWeighted a → IsWeighted b → IsWeighted c → sum_of_three a b c ≡ a +ℤ b +ℤ c
sum_of_three_is a b c p q r =
    let a_is = cast_small a (omega (arith, p)) in
    let b_is = cast_small b (omega (arith, q)) in
    let c_is = cast_small c (omega (arith, r)) in
    let two = cast_small (a +ℤ b) (omega (arith, ints, p, q)) in
    rw (a_is, b_is, c_is, two) (omega (arith, ints))

sum_of_four_is : (a b c d : ℤ) → IsWeighted a → IsWeighted b → IsWeighted c → IsWeighted d
    → sum_of_four a b c d ≡ a +ℤ b +ℤ c +ℤ d
sum_of_four_is a b c d p q r s =
    let d_is = cast_small d (omega (arith, s)) in
    let three = cast_small (a +ℤ b +ℤ c) (omega (arith, ints, p, q, r)) in
    rw (sum_of_three_is a b c p q r, d_is, three) (omega (arith, ints))

pub three_fit : (a b c : ℤ) → IsWeighted a → IsWeighted b → IsWeighted c → FitsSigned w128 (sum_of_three a b c)
three_fit a b c p q r =
    subst (λ (x : ℤ). FitsSigned w128 x) (sym (sum_of_three_is a b c p q r)) (omega (arith, ints, p, q, r))

pub four_fit : (a b c d : ℤ) → IsWeighted a → IsWeighted b → IsWeighted c → IsWeighted d → FitsSigned w128 (sum_of_four a b c d)
four_fit a b c d p q r s =
    subst (λ (x : ℤ). FitsSigned w128 x) (sym (sum_of_four_is a b c d p q r s)) (omega (arith, ints, p, q, r, s))

cast_of_four : (a b c d : ℤ) → IsWeighted a → IsWeighted b → IsWeighted c → IsWeighted d
    → cast (sum_of_four a b c d) ≡ a +ℤ b +ℤ c +ℤ d
cast_of_four a b c d p q r s =
    let fits = cast_small (a +ℤ b +ℤ c +ℤ d) (omega (arith, ints, p, q, r, s)) in
    ap cast (sum_of_four_is a b c d p q r s) ∙ fits

pub four_small : (a b c d : ℤ) → IsWeighted a → IsWeighted b → IsWeighted c → IsWeighted d
    → unsigned_abs (cast (sum_of_four a b c d)) ≤ 10 ^ 37
four_small a b c d p q r s =
    subst (λ (x : ℤ). unsigned_abs x ≤ 10 ^ 37) (sym (cast_of_four a b c d p q r s)) (omega (arith, ints, p, q, r, s))

pub mean_is : (mean q a b c d x0 x1 x2 x3 : ℤ) (w0 w1 w2 w3 sum : ℕ)
    → IsWeighted a → IsWeighted b → IsWeighted c → IsWeighted d
    → a ≡ x0 *ℤ pos w0 → b ≡ x1 *ℤ pos w1 → c ≡ x2 *ℤ pos w2 → d ≡ x3 *ℤ pos w3
    → sum ≤ 2 ^ 50 → FitsSigned w128 q → q ≡ rnd (cast (sum_of_four a b c d)) (to_z w128 sum) → mean ≡ limit (cast q)
    → mean ≡ weighted_mean w0 w1 w2 w3 sum x0 x1 x2 x3
unfolding weighted_mean
mean_is mean q a b c d x0 x1 x2 x3 w0 w1 w2 w3 sum p0 p1 p2 p3 first second third fourth few fits rounded limited =
    cc (
      limited,
      to_z-of_z w128 q fits,
      rounded,
      cast_of_four a b c d p0 p1 p2 p3,
      to_z_pos w128 sum (omega (arith, few)),
      first,
      second,
      third,
      fourth,
    )
