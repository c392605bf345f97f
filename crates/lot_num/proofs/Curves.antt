use Rattle.std.proofs.Common.{◌≡◌, ◌↔◌, ℕ, ℤ, pos, negsuc, unsigned_abs, ◌+◌, ◌-◌, ◌*◌, ◌^◌, ◌<◌, ◌≤◌, ◌≤ℤ◌, zero, suc, refl, subst, arith, inl, inr, ◌+ℤ◌, ◌*ℤ◌, IsTrue}
use Rattle.std.proofs.Math.Nat.{mul-le-mul_left, mul-le-mul_right}
use Rattle.std.proofs.lemmas.Bool.{cases_lt}
use Rattle.std.proofs.lemmas.Int.{ints}
use Rattle.std.proofs.lemmas.Bool.Decides.{nat_tests}
use lib.Dec.{leb}
use Rattle.lot_num.specs.Round.{rnd}
use Rattle.lot_num.specs.Easing.{grid_steps, square, cube, curve, Reaches, IsLeast}

-- ---- the x coordinate does not fall from one step to the next

-- the coordinate at the step g, of which h steps are left, where m is one
abbrev x_at : ℕ → ℕ → ℕ → ℕ → ℕ → ℕ
x_at a b m g h = a * (3 * g * square h) + b * (3 * square g * h) + m * cube g

two_products : (g k : ℕ) → 2 * (g * k) ≤ square g + square k
two_products g k = elim (cases_lt g k) [
  | inl less ↦ let e : k ≡ g + (k - g) = omega arith in rw e (omega arith)
  | inr more ↦ let e : g ≡ k + (g - k) = omega arith in rw e (omega arith)
]

rises_up : (a b m d e g k : ℕ) → b ≡ a + d → m ≡ a + d + e → x_at a b m g (suc k) ≤ x_at a b m (suc g) k
rises_up a b m d e g k p q = rw (p, q) (omega arith)

rises_down : (a b m d e g k : ℕ) → a ≡ b + d → m ≡ b + d + e → x_at a b m g (suc k) ≤ x_at a b m (suc g) k
rises_down a b m d e g k p q = rw (p, q) (omega (arith, mul-le-mul_left d (two_products g k)))

rises : (a b m g k : ℕ) → a ≤ m → b ≤ m → x_at a b m g (suc k) ≤ x_at a b m (suc g) k
rises a b m g k a_in b_in = elim (cases_lt b a) [
  | inl less ↦ rises_down a b m (a - b) (m - a) g k (omega arith) (omega arith)
  | inr more ↦ rises_up a b m (b - a) (m - b) g k (omega arith) (omega arith)
]

-- nor from one step to a later one
rises_to : (a b m j n h : ℕ) → a ≤ m → b ≤ m → x_at a b m j (n + h) ≤ x_at a b m (j + n) h
rises_to a b m j zero h a_in b_in = omega arith
rises_to a b m j (suc n) h a_in b_in =
    omega (arith, rises_to a b m j n (suc h) a_in b_in, rises a b m (j + n) h a_in b_in)

later : (a b j k : ℕ) → a ≤ 10 ^ 6 → b ≤ 10 ^ 6 → j ≤ k → k ≤ grid_steps
    → x_at a b (10 ^ 6) j (grid_steps - j) ≤ x_at a b (10 ^ 6) k (grid_steps - k)
later a b j k a_in b_in before within =
    let p : grid_steps - j ≡ (k - j) + (grid_steps - k) = omega arith in
    let q : j + (k - j) ≡ k = omega arith in
    rw p (rw q at (rises_to a b (10 ^ 6) j (k - j) (grid_steps - k) a_in b_in))

scaled : (goal x y d : ℕ) → x ≤ y → pos goal ≤ℤ pos (x * d) → pos goal ≤ℤ pos (y * d)
scaled goal x y d up h = let more : x * d ≤ y * d = mul-le-mul_right d up in omega (arith, ints, h, more)

-- a later step is at num / den or after it where an earlier one is
reaches_later : (a b num den j k : ℕ) → a ≤ 10 ^ 6 → b ≤ 10 ^ 6 → j ≤ k → k ≤ grid_steps
    → Reaches (pos a) (pos b) (pos num) (pos den) j → Reaches (pos a) (pos b) (pos num) (pos den) k
reaches_later a b num den j k a_in b_in before within h = scaled _ _ _ den (later a b j k a_in b_in before within) h

-- the last step is at one
reaches_end : (a b num den : ℕ) → num ≤ den → Reaches (pos a) (pos b) (pos num) (pos den) grid_steps
reaches_end a b num den part = omega (arith, ints, part)

pub compares : (l x x' d : ℕ) → x ≡ x' → IsTrue (leb l (x * d)) ↔ (pos l ≤ℤ pos (x' * d))
compares l x x' d same = (λ h. grind (arith, nat_tests, ints), λ h. grind (arith, nat_tests, ints))

-- ---- halving

-- the first step that is at num / den or after it is from `low` to `high`
pub record IsBetween (a b num den low high : ℕ) : Type 0 where
  pub ordered : low ≤ high
  pub within : high ≤ grid_steps
  pub reaches : Reaches (pos a) (pos b) (pos num) (pos den) high
  pub least : (k : ℕ) → k < low → Reaches (pos a) (pos b) (pos num) (pos den) k → ⊥

pub from_start : (a b num den : ℕ) → num ≤ den → IsBetween a b num den 0 grid_steps
from_start a b num den part = record {
  ordered = omega arith;
  within = omega arith;
  reaches = reaches_end a b num den part;
  least = λ k below h. absurd (omega (arith, below));
}

pub to_middle : (a b num den low high middle : ℕ) → IsBetween a b num den low high → low ≤ middle → middle < high
    → Reaches (pos a) (pos b) (pos num) (pos den) middle → IsBetween a b num den low middle
to_middle a b num den low high middle h above below reaches = record {
  ordered = above;
  within = omega (arith, h.within);
  reaches = reaches;
  least = h.least;
}

pub after_middle : (a b num den low high middle : ℕ) → a ≤ 10 ^ 6 → b ≤ 10 ^ 6 → IsBetween a b num den low high → middle < high
    → (Reaches (pos a) (pos b) (pos num) (pos den) middle → ⊥) → IsBetween a b num den (middle + 1) high
after_middle a b num den low high middle a_in b_in h below none = record {
  ordered = omega arith;
  within = h.within;
  reaches = h.reaches;
  least = λ k before k_reaches. none
      (reaches_later a b num den k middle a_in b_in (omega (arith, before)) (omega (arith, h.within)) k_reaches);
}

pub is_least : (a b num den low high : ℕ) → IsBetween a b num den low high → high ≤ low → IsLeast (pos a) (pos b) (pos num) (pos den) low
is_least a b num den low high h met =
    let e : high ≡ low = omega (arith, h.ordered) in
    record {
      within = omega (arith, h.within);
      reaches = subst (λ (g : ℕ). Reaches (pos a) (pos b) (pos num) (pos den) g) e h.reaches;
      least = h.least;
    }

-- ---- signed numbers

magnitude : (z : ℤ) → pos 0 ≤ℤ z → pos (unsigned_abs z) ≡ z
magnitude (pos n) h = refl
magnitude (negsuc n) h = absurd (omega (arith, ints, h))

pub signed_least : (a b num den : ℤ) (g : ℕ) → pos 0 ≤ℤ a → pos 0 ≤ℤ b → pos 0 ≤ℤ num → pos 0 ≤ℤ den
    → IsLeast (pos (unsigned_abs a)) (pos (unsigned_abs b)) (pos (unsigned_abs num)) (pos (unsigned_abs den)) g
    → IsLeast a b num den g
signed_least a b num den g p q r s h = rw (magnitude a p, magnitude b q, magnitude num r, magnitude den s) at h

-- ---- sums and products that the code makes

pub curve_of : (r a b x y z : ℤ) (g p q e : ℕ) → r ≡ x +ℤ y +ℤ z → x ≡ a *ℤ pos p → y ≡ b *ℤ pos q → z ≡ pos (10 ^ 6 * e)
    → p ≡ 3 * g * square (grid_steps - g) → q ≡ 3 * square g * (grid_steps - g) → e ≡ cube g → r ≡ curve a b g
curve_of r a b x y z g p q e sum first second third p_is q_is e_is = cc

pub height_small : (y : ℤ) → unsigned_abs y ≤ 10 ^ 8 * cube grid_steps → unsigned_abs (rnd y (pos (cube grid_steps))) ≤ 10 ^ 8
height_small (pos n) h = omega (arith, h)
height_small (negsuc n) h = omega (arith, ints, h)
