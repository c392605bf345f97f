-- The sums of the lengths of the chords.
use Rattle.std.proofs.Common.{◌≡◌, ◌∙◌, ◌≢◌, ℕ, ℤ, pos, zero, suc, ◌+◌, ◌-◌, ◌*◌, ◌^◌, ◌<◌, ◌≤◌, ◌-ℤ◌, true, false, List, slice_index, length, set, get_or-set_other, get_or-set_same, nat_le, ap, sym, refl, subst, arith, inl, inr}
use Rattle.std.proofs.Math.Nat.{mul-le-mul_right}
use Rattle.std.proofs.lemmas.Bool.{cases_lt}
use Rattle.std.proofs.lemmas.Bool.Decides.{nat_tests}
use Rattle.std.proofs.lemmas.Int.{ints}
use Rattle.lot_num.proofs.Least.{least_is}
use Rattle.lot_geom.specs.declared.cubic.Cubic.{Cubic}
use Rattle.lot_types.specs.declared.point.Point.{Point}
use Rattle.lot_geom.specs.Along.{along, point_after, fraction_of, chords_before, chord_reaches, chords, chord_length, length_until, sum_until, on_chord, end_of_chords}
use Rattle.lot_geom.specs.Chords.{length_of_chord, length_of_chords, max_chord_length}

pub sum_of_next : (lengths : List ℕ) (k : ℕ) → sum_until lengths k + slice_index lengths k ≡ sum_until lengths (k + 1)
unfolding sum_until
sum_of_next lengths k = let next : suc k ≡ k + 1 = omega arith in ap (sum_until lengths) next

pub length_of_next : (c : Cubic) (n k : ℕ) → length_of_chords c n k + length_of_chord c n k ≡ length_of_chords c n (k + 1)
unfolding length_of_chords
length_of_next c n k = let next : suc k ≡ k + 1 = omega arith in ap (length_of_chords c n) next

abbrev pub AreShort : List ℕ → Type 0
AreShort lengths = (k : ℕ) → k < chords → slice_index lengths k ≤ max_chord_length

abbrev pub AreChords : Cubic → List ℕ → Type 0
AreChords c lengths = (k : ℕ) → k < chords → slice_index lengths k ≡ chord_length c k

pub sum_small : (lengths : List ℕ) (k : ℕ) → AreShort lengths → k ≤ chords → sum_until lengths k ≤ k * max_chord_length
unfolding sum_until
sum_small lengths zero short h = omega arith
sum_small lengths (suc k) short h = omega (arith, sum_small lengths k short (omega (arith, h)), short k (omega (arith, h)))

pub same_sums : (c : Cubic) (lengths : List ℕ) (k : ℕ) → AreChords c lengths → k ≤ chords
    → sum_until lengths k ≡ length_until c k
unfolding sum_until length_of_chords
same_sums c lengths zero each h = refl
same_sums c lengths (suc k) each h = omega (arith, same_sums c lengths k each (omega (arith, h)), each k (omega (arith, h)))

-- ---- the loop that measures

-- The first k chords are measured, and the last of them ends at `at`.
pub record IsMeasured (c : Cubic) (lengths : List ℕ) (total : ℕ) (at : Point) (k : ℕ) : Type 0 where
  pub sum : total ≡ length_until c k
  pub small : total ≤ k * max_chord_length
  pub end : at ≡ end_of_chords c k
  pub each : (j : ℕ) → j < k → slice_index lengths j ≡ chord_length c j
  pub short : (j : ℕ) → j < k → slice_index lengths j ≤ max_chord_length

pub none_measured : (c : Cubic) (lengths : List ℕ) (at : Point) → at ≡ end_of_chords c 0 → IsMeasured c lengths 0 at 0
unfolding length_of_chords
none_measured c lengths at start = record {
  sum = refl;
  small = omega arith;
  end = start;
  each = λ j h. absurd (omega (arith, h));
  short = λ j h. absurd (omega (arith, h));
}

-- What holds of the numbers before k, and of the one written at k.
set_next : (P : ℕ → ℕ → Type 0) (lengths : List ℕ) (k x : ℕ) → k < length lengths
    → ((j : ℕ) → j < k → P j (slice_index lengths j)) → P k x
    → (j : ℕ) → j < k + 1 → P j (slice_index (set lengths k x) j)
set_next P lengths k x within before here j h = elim (cases_lt j k) [
  | inl less ↦
      let other : j ≢ k = omega (arith, less) in
      subst (λ (n : ℕ). P j n) (sym (get_or-set_other lengths k j x 0 other)) (before j less)
  | inr more ↦
      let e : k ≡ j = omega (arith, h, more) in
      subst (λ (i : ℕ). P i (slice_index (set lengths k x) i)) e
      (subst (λ (n : ℕ). P k n) (sym (get_or-set_same lengths k x 0 within)) here)
]

pub next_measured : (c : Cubic) (lengths : List ℕ) (total x k : ℕ) (at end : Point)
    → k < length lengths → IsMeasured c lengths total at k
    → x ≡ chord_length c k → x ≤ max_chord_length → end ≡ end_of_chords c (k + 1)
    → IsMeasured c (set lengths k x) (total + x) end (k + 1)
next_measured c lengths total x k at end within h long short there = record {
  sum = ap (λ (n : ℕ). n + x) h.sum ∙ ap (λ (n : ℕ). length_until c k + n) long ∙ length_of_next c chords k;
  small = omega (arith, h.small, short);
  end = there;
  each = set_next (λ j n. n ≡ chord_length c j) lengths k x within h.each long;
  short = set_next (λ j n. n ≤ max_chord_length) lengths k x within h.short short;
}

-- ---- the loop that finds the first chord that reaches

-- The first k chords have the length `before`, and none of them reaches the goal.
pub record IsBefore (lengths : List ℕ) (goal before k : ℕ) : Type 0 where
  pub sum : before ≡ sum_until lengths k
  pub passed : (j : ℕ) → j < k → 10 ^ 6 * sum_until lengths (j + 1) < goal

pub at_start : (lengths : List ℕ) (goal : ℕ) → IsBefore lengths goal 0 0
unfolding sum_until
at_start lengths goal = record { sum = refl; passed = λ j h. absurd (omega (arith, h)) }

pub passes : (lengths : List ℕ) (goal before k : ℕ) → IsBefore lengths goal before k
    → 10 ^ 6 * (before + slice_index lengths k) < goal
    → IsBefore lengths goal (before + slice_index lengths k) (k + 1)
passes lengths goal before k h below =
    let sum : before + slice_index lengths k ≡ sum_until lengths (k + 1) =
    ap (λ (n : ℕ). n + slice_index lengths k) h.sum ∙ sum_of_next lengths k in
    record {
      sum = sum;
      passed = λ j lt. elim (cases_lt j k) [
        | inl less ↦ h.passed j less
        | inr more ↦
            let e : k ≡ j = omega (arith, lt, more) in
            subst (λ (i : ℕ). 10 ^ 6 * sum_until lengths (i + 1) < goal) e (omega (arith, below, sum))
      ];
    }

pub end_fits : (lengths : List ℕ) (goal before k : ℕ) → AreShort lengths → k < chords → IsBefore lengths goal before k
    → before + slice_index lengths k ≤ chords * max_chord_length
end_fits lengths goal before k short lt h =
    omega (arith, h.sum, sum_of_next lengths k, sum_small lengths (k + 1) short (omega (arith, lt)), lt)

-- The last chord reaches what all chords do.
pub end_reaches : (lengths : List ℕ) (goal before : ℕ) → IsBefore lengths goal before chords
    → goal ≤ 10 ^ 6 * sum_until lengths chords → ⊥
end_reaches lengths goal before h reached = omega (arith, reached, h.passed 127 (omega arith))

-- ---- the point

pub goal_reached : (c : Cubic) (lengths : List ℕ) (f total : ℕ) → AreChords c lengths
    → total ≡ length_until c chords → f ≤ 10 ^ 6
    → f * total ≤ 10 ^ 6 * sum_until lengths chords
goal_reached c lengths f total each whole small =
    let same = same_sums c lengths chords each (omega arith) in
    omega (arith, mul-le-mul_right total small, whole, same)

before_goal : (lengths : List ℕ) (goal k : ℕ) → ((j : ℕ) → j < k → 10 ^ 6 * sum_until lengths (j + 1) < goal)
    → 10 ^ 6 * sum_until lengths k ≤ goal
unfolding sum_until
before_goal lengths goal zero first = omega arith
before_goal lengths goal (suc j) first =
    let next : suc j ≡ j + 1 = omega arith in
    omega (arith, first j (omega arith), ap (sum_until lengths) next)

pub before_is_passed : (lengths : List ℕ) (goal before k : ℕ) → before ≡ sum_until lengths k
    → ((j : ℕ) → j < k → 10 ^ 6 * sum_until lengths (j + 1) < goal) → 10 ^ 6 * before ≤ goal
before_is_passed lengths goal before k sum first = omega (arith, sum, before_goal lengths goal k first)

pub within_chord : (lengths : List ℕ) (goal before k : ℕ) → before ≡ sum_until lengths k
    → goal ≤ 10 ^ 6 * sum_until lengths (k + 1)
    → goal - 10 ^ 6 * before ≤ 10 ^ 6 * slice_index lengths k
within_chord lengths goal before k sum reached = omega (arith, sum, reached, sum_of_next lengths k)

le_true : (m n : ℕ) → m ≤ n → nat_le m n ≡ true
le_true m n h = grind (arith, nat_tests)

le_false : (m n : ℕ) → n < m → nat_le m n ≡ false
le_false m n h = grind (arith, nat_tests)

chords_before_is : (c : Cubic) (f k : ℕ) → k < chords → f * length_until c chords ≤ 10 ^ 6 * length_until c (k + 1)
    → ((j : ℕ) → j < k → 10 ^ 6 * length_until c (j + 1) < f * length_until c chords) → chords_before c f ≡ k
chords_before_is c f k lt reached first =
    least_is (chord_reaches c f) (chords - 1) k (omega (arith, lt)) (le_true _ _ reached)
    (λ j before. le_false _ _ (first j before))

point_is : (c : Cubic) (f k : ℕ) (z : ℤ) → chords_before c (fraction_of z) ≡ k → f ≡ fraction_of z
    → point_after c f k ≡ along c z
unfolding along
point_is c f k z at is = cc

subtracted : (a b : ℕ) → b ≤ a → pos (a - b) ≡ pos a -ℤ pos b
subtracted a b h = omega (arith, ints)

pub is_along : (c : Cubic) (z : ℤ) (lengths : List ℕ) (f total before k : ℕ)
    → f ≡ fraction_of z → total ≡ length_until c chords → AreChords c lengths
    → k < chords → before ≡ sum_until lengths k → f * total ≤ 10 ^ 6 * sum_until lengths (k + 1)
    → ((j : ℕ) → j < k → 10 ^ 6 * sum_until lengths (j + 1) < f * total)
    → on_chord (end_of_chords c k) (end_of_chords c (k + 1)) (slice_index lengths k) (pos (f * total - 10 ^ 6 * before))
    ≡ along c z
is_along c z lengths f total before k fraction whole each lt sum reached first =
    let same = same_sums c lengths in
    let at = chords_before_is c f k lt
    (rw (← whole, ← same (k + 1) each (omega (arith, lt))) reached)
    (λ j less. rw (← whole, ← same (j + 1) each (omega (arith, lt, less))) (first j less)) in
    let passed = subtracted (f * total) (10 ^ 6 * before) (before_is_passed lengths (f * total) before k sum first) in
    let before_is = sum ∙ same k each (omega (arith, lt)) in
    let start = end_of_chords c k in
    let end = end_of_chords c (k + 1) in
    ap (λ (p : ℤ). on_chord start end (slice_index lengths k) p) passed
    ∙ ap (λ (n : ℕ). on_chord start end n (pos (f * total) -ℤ pos (10 ^ 6 * before))) (each k lt)
    ∙ ap (λ (n : ℕ). on_chord start end (chord_length c k) (pos (f * n) -ℤ pos (10 ^ 6 * before))) whole
    ∙ ap (λ (n : ℕ). on_chord start end (chord_length c k) (pos (f * length_until c chords) -ℤ pos (10 ^ 6 * n))) before_is
    ∙ point_is c f k z (ap (chords_before c) (sym fraction) ∙ at) fraction
