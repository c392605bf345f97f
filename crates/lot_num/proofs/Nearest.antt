use Rattle.std.proofs.Common.{◌≡◌, ◌≢◌, ℕ, ℤ, pos, negsuc, neg_ℤ, unsigned_abs, ◌+◌, ◌-◌, ◌*◌, ◌<◌, ◌≤◌, ◌-ℤ◌, ◌*ℤ◌, suc, zero, refl, sym, ap, ◌∙◌, subst, arith, inl, inr}
use Rattle.std.proofs.Math.Nat.{mul-le-mul_left}
use Rattle.std.proofs.Math.IntN.{neg_ℤ-neg_ℤ, *ℤ_comm}
use Rattle.std.proofs.lemmas.Bool.{cases_lt, cases_order}
use Rattle.std.proofs.lemmas.Int.{ints}
use Rattle.lot_num.specs.Round.{nearest, rnd, IsNearest}

-- ---- magnitudes: the multiple of d nearest to n

-- how far apart two numbers are
abbrev gap : ℕ → ℕ → ℕ
gap a b = (a - b) + (b - a)

-- the nearest multiple is at most half of d away on either side
below : (n d : ℕ) → 0 < d → 2 * (d * nearest n d) ≤ 2 * n + d
below n d h = omega arith

above : (n d : ℕ) → 0 < d → 2 * n + d < 2 * (d * nearest n d) + 2 * d
above n d h = omega arith

-- two multiples of d are at least d apart
multiples_apart : (d j k : ℕ) → j < k → d * j + d ≤ d * k
multiples_apart d j k h =
    let next : d * (j + 1) ≤ d * k = mul-le-mul_left d (omega arith) in omega (arith, next)

closest : (n d k : ℕ) → 0 < d → gap n (d * nearest n d) ≤ gap n (d * k)
closest n d k h = elim (cases_order k (nearest n d)) [
  | inl same ↦ let e : d * k ≡ d * nearest n d = ap (λ (i : ℕ). d * i) same in omega (arith, e)
  | inr (inl less) ↦ omega (arith, below n d h, above n d h, multiples_apart d k (nearest n d) less)
  | inr (inr more) ↦ omega (arith, below n d h, above n d h, multiples_apart d (nearest n d) k more)
]

-- a multiple that is as near is not a greater one
greatest : (n d k : ℕ) → 0 < d → gap n (d * k) ≡ gap n (d * nearest n d) → k ≤ nearest n d
greatest n d k h tie = elim (cases_lt (nearest n d) k) [
  | inl more ↦ absurd (omega (arith, tie, below n d h, above n d h, multiples_apart d (nearest n d) k more))
  | inr less ↦ less
]

both_positive : (n d : ℕ) → 0 < d → IsNearest (pos n) (pos d) (pos (nearest n d))
both_positive n d h = record { nearest = near; away = far } where
  near : (p : ℤ) → unsigned_abs (pos n -ℤ pos (nearest n d) *ℤ pos d) ≤ unsigned_abs (pos n -ℤ p *ℤ pos d)
  near (pos k) = omega (arith, ints, closest n d k h)
  near (negsuc k) = omega (arith, ints, closest n d 0 h)

  far : (p : ℤ) → unsigned_abs (pos n -ℤ p *ℤ pos d) ≡ unsigned_abs (pos n -ℤ pos (nearest n d) *ℤ pos d)
      → unsigned_abs p ≤ nearest n d
  far (pos k) tie = greatest n d k h (omega (arith, ints, tie))
  far (negsuc k) tie = absurd (omega (arith, ints, tie, closest n d 0 h))

-- ---- signs: the law holds for negated numbers where it holds for the numbers

neg_mul : (a b : ℤ) → neg_ℤ a *ℤ b ≡ neg_ℤ (a *ℤ b)
neg_mul (pos zero) (pos b) = omega (arith, ints)
neg_mul (pos zero) (negsuc b) = omega (arith, ints)
neg_mul (pos (suc a)) (pos b) = omega (arith, ints)
neg_mul (pos (suc a)) (negsuc b) = omega (arith, ints)
neg_mul (negsuc a) (pos b) = omega (arith, ints)
neg_mul (negsuc a) (negsuc b) = omega (arith, ints)

mul_neg : (a b : ℤ) → a *ℤ neg_ℤ b ≡ neg_ℤ (a *ℤ b)
mul_neg a b = *ℤ_comm a (neg_ℤ b) ∙ neg_mul b a ∙ ap neg_ℤ (*ℤ_comm b a)

-- p is as far from -x / y as -p is from x / y
distance_x : (x y p : ℤ) → unsigned_abs (neg_ℤ x -ℤ p *ℤ y) ≡ unsigned_abs (x -ℤ neg_ℤ p *ℤ y)
distance_x x y p = rw (neg_mul p y) (omega (arith, ints))

-- p is as far from -x / -y as from x / y
distance_both : (x y p : ℤ) → unsigned_abs (neg_ℤ x -ℤ p *ℤ neg_ℤ y) ≡ unsigned_abs (x -ℤ p *ℤ y)
distance_both x y p = rw (mul_neg p y) (omega (arith, ints))

negate_x : (x y q : ℤ) → IsNearest x y q → IsNearest (neg_ℤ x) y (neg_ℤ q)
negate_x x y q h = record { nearest = near; away = far } where
  near : (p : ℤ) → unsigned_abs (neg_ℤ x -ℤ neg_ℤ q *ℤ y) ≤ unsigned_abs (neg_ℤ x -ℤ p *ℤ y)
  near p = rw (distance_x x y p, distance_x x y (neg_ℤ q), neg_ℤ-neg_ℤ q) (h.nearest (neg_ℤ p))

  far : (p : ℤ) → unsigned_abs (neg_ℤ x -ℤ p *ℤ y) ≡ unsigned_abs (neg_ℤ x -ℤ neg_ℤ q *ℤ y)
      → unsigned_abs p ≤ unsigned_abs (neg_ℤ q)
  far p tie = omega (arith, ints, h.away (neg_ℤ p) (rw (← distance_x x y p) (tie ∙ rw (distance_x x y (neg_ℤ q), neg_ℤ-neg_ℤ q) refl)))

negate_both : (x y q : ℤ) → IsNearest x y q → IsNearest (neg_ℤ x) (neg_ℤ y) q
negate_both x y q h = record {
  nearest = λ p. rw (distance_both x y p, distance_both x y q) (h.nearest p);
  away = λ p tie. h.away p (sym (distance_both x y p) ∙ tie ∙ distance_both x y q);
}

negate_y : (x y q : ℤ) → IsNearest x y q → IsNearest x (neg_ℤ y) (neg_ℤ q)
negate_y x y q h =
    subst (λ (z : ℤ). IsNearest z (neg_ℤ y) (neg_ℤ q)) (neg_ℤ-neg_ℤ x) (negate_both _ y _ (negate_x x y q h))

-- ---- the law

pub rnd_nearest : (x y : ℤ) → y ≢ pos 0 → IsNearest x y (rnd x y)
rnd_nearest (pos n) (pos zero) nonzero = absurd (nonzero refl)
rnd_nearest (negsuc n) (pos zero) nonzero = absurd (nonzero refl)
rnd_nearest (pos n) (pos (suc d)) nonzero = both_positive n (suc d) (omega arith)
rnd_nearest (pos n) (negsuc d) nonzero = negate_y (pos n) (pos (suc d)) _ (both_positive n (suc d) (omega arith))
rnd_nearest (negsuc n) (pos (suc d)) nonzero = negate_x (pos (suc n)) (pos (suc d)) _ (both_positive (suc n) (suc d) (omega arith))
rnd_nearest (negsuc n) (negsuc d) nonzero = negate_both (pos (suc n)) (pos (suc d)) _ (both_positive (suc n) (suc d) (omega arith))

-- ---- a bound

pub nearest_within : (n d m : ℕ) → 0 < d → n ≤ m * d → nearest n d ≤ m
nearest_within n d m positive h = elim (cases_lt m (nearest n d)) [
  | inl more ↦ absurd (omega (arith, h, below n d positive, multiples_apart d m (nearest n d) more))
  | inr less ↦ less
]
