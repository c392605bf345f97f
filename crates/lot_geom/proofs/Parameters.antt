-- Parameters at lengths do not fall.
use Rattle.std.proofs.Common.{◌≡◌, ◌≢◌, ◌∙◌, ℕ, zero, suc, ◌+◌, ◌-◌, ◌*◌, ◌==◌, ◌<◌, ◌≤◌, true, false, if◌then◌else◌, nat_le, sym, refl, ap, subst, arith, inl, inr}
use Rattle.std.proofs.Math.Nat.{mul-le-mul_left}
use Rattle.std.proofs.lemmas.Bool.{cases_lt, cases_order, cond-true, cond-false}
use Rattle.std.proofs.lemmas.Bool.Decides.{nat_tests}
use Rattle.lot_num.proofs.Least.{least_within, least_passes, least_below, least_is}
use Rattle.lot_num.specs.Easing.{grid_steps}
use Rattle.lot_num.specs.Round.{nearest}
use Rattle.lot_geom.specs.declared.cubic.Cubic.{Cubic}
use Rattle.lot_geom.specs.Chords.{length_of_chord, length_of_chords}
use Rattle.lot_geom.specs.Lengths.{curve_length, measuring_chords, reaches_length, chords_passed, steps_of_chord, parameter_after, parameter_at}
use Rattle.lot_geom.proofs.Chords.{length_of_next}

-- ---- rounded quotients

below : (n d : ℕ) → 0 < d → 2 * (d * nearest n d) ≤ 2 * n + d
below n d h = omega arith

above : (n d : ℕ) → 0 < d → 2 * n + d < 2 * (d * nearest n d) + 2 * d
above n d h = omega arith

next_multiple : (d j k : ℕ) → j < k → d * j + d ≤ d * k
next_multiple d j k h = let next : d * (j + 1) ≤ d * k = mul-le-mul_left d (omega arith) in omega (arith, next)

-- The quotient of a greater number is not smaller.
nearest_ordered : (m n d : ℕ) → 0 < d → m ≤ n → nearest m d ≤ nearest n d
nearest_ordered m n d h le = elim (cases_lt (nearest n d) (nearest m d)) [
  | inl less ↦ absurd (omega (arith, le, below m d h, above n d h, next_multiple d (nearest n d) (nearest m d) less))
  | inr more ↦ more
]

-- That of at most s times the divisor is at most s.
pub nearest_small : (n d s : ℕ) → 0 < d → n ≤ d * s → nearest n d ≤ s
nearest_small n d s h le = elim (cases_lt s (nearest n d)) [
  | inl less ↦ absurd (omega (arith, h, le, below n d h, next_multiple d s (nearest n d) less))
  | inr more ↦ more
]

-- ---- the chord on which a length is reached

abbrev until : Cubic → ℕ → ℕ
until c k = length_of_chords c measuring_chords k

abbrev chord : Cubic → ℕ → ℕ
chord c k = length_of_chord c measuring_chords k

-- The length x is reached on the chord after the first k, and on none before.
pub record IsOnChord (c : Cubic) (x k : ℕ) : Type 0 where
  pub within : k < measuring_chords
  pub from : until c k < x
  pub to : x ≤ until c k + chord c k

le_true : (m n : ℕ) → m ≤ n → nat_le m n ≡ true
le_true m n h = grind (arith, nat_tests)

le_false : (m n : ℕ) → n < m → nat_le m n ≡ false
le_false m n h = grind (arith, nat_tests)

true_le : (m n : ℕ) → nat_le m n ≡ true → m ≤ n
true_le m n h = grind (arith, nat_tests)

false_le : (m n : ℕ) → nat_le m n ≡ false → n < m
false_le m n h = grind (arith, nat_tests)

until_zero : (c : Cubic) → until c 0 ≡ 0
unfolding length_of_chords
until_zero c = refl

-- The chords before do not reach x, so that their length is below it.
pub starts_below : (c : Cubic) (x k : ℕ) → 0 < x → ((j : ℕ) → j < k → until c (j + 1) < x) → until c k < x
starts_below c x zero some first = omega (arith, some, until_zero c)
starts_below c x (suc k) some first =
    let next : k + 1 ≡ suc k = omega arith in subst (λ (n : ℕ). until c n < x) next (first k (omega arith))

found_on : (c : Cubic) (x : ℕ) → 0 < x → x ≤ curve_length c → IsOnChord c x (chords_passed c x)
unfolding curve_length
found_on c x some within =
    let k = chords_passed c x in
    let few = least_within (reaches_length c x) (measuring_chords - 1) in
    let reached = true_le _ _ (least_passes (reaches_length c x) (measuring_chords - 1) (measuring_chords - 1) (omega arith)
    (le_true x (until c (measuring_chords - 1 + 1)) within)) in
    let first = λ (j : ℕ) (lt : j < k). false_le _ _ (least_below (reaches_length c x) (measuring_chords - 1) j lt) in
    record {
      within = omega (arith, few);
      from = starts_below c x k some first;
      to = omega (arith, reached, length_of_next c measuring_chords k);
    }

pub chords_passed_is : (c : Cubic) (x k : ℕ) → k < measuring_chords → x ≤ until c (k + 1)
    → ((j : ℕ) → j < k → until c (j + 1) < x) → chords_passed c x ≡ k
chords_passed_is c x k few reached first =
    least_is (reaches_length c x) (measuring_chords - 1) k (omega (arith, few)) (le_true _ _ reached)
    (λ j lt. le_false _ _ (first j lt))

-- ---- the three cases of a parameter

pub at_start : (c : Cubic) → parameter_at c 0 ≡ 0
unfolding parameter_at
at_start c = refl

is_zero : (x : ℕ) → x ≢ 0 → (x == 0) ≡ false
is_zero x h = grind (arith, nat_tests)

are_same : (x y : ℕ) → x ≡ y → (x == y) ≡ true
are_same x y h = grind (arith, nat_tests)

are_other : (x y : ℕ) → x ≢ y → (x == y) ≡ false
are_other x y h = grind (arith, nat_tests)

pub at_end : (c : Cubic) (x : ℕ) → x ≢ 0 → x ≡ curve_length c → parameter_at c x ≡ grid_steps
unfolding parameter_at
at_end c x some whole =
    cond-false (x == 0) 0 (if x == curve_length c then grid_steps else parameter_after c x (chords_passed c x))
    (is_zero x some)
    ∙ cond-true (x == curve_length c) grid_steps (parameter_after c x (chords_passed c x))
    (are_same x (curve_length c) whole)

pub at_inside : (c : Cubic) (x : ℕ) → x ≢ 0 → x ≢ curve_length c
    → parameter_at c x ≡ parameter_after c x (chords_passed c x)
unfolding parameter_at
at_inside c x some part =
    cond-false (x == 0) 0 (if x == curve_length c then grid_steps else parameter_after c x (chords_passed c x))
    (is_zero x some)
    ∙ cond-false (x == curve_length c) grid_steps (parameter_after c x (chords_passed c x))
    (are_other x (curve_length c) part)

-- ---- their order

on_grid : (c : Cubic) (x k : ℕ) → IsOnChord c x k → parameter_after c x k ≤ steps_of_chord * k + steps_of_chord
on_grid c x k on =
    let small = nearest_small (steps_of_chord * (x - until c k)) (chord c k) steps_of_chord
    (omega (arith, on.from, on.to)) (omega (arith, on.to)) in
    omega (arith, small)

same_chord : (c : Cubic) (x y k : ℕ) → x ≤ y → IsOnChord c x k → parameter_after c x k ≤ parameter_after c y k
same_chord c x y k le on =
    let ordered = nearest_ordered (steps_of_chord * (x - until c k)) (steps_of_chord * (y - until c k)) (chord c k)
    (omega (arith, on.from, on.to)) (omega (arith, le)) in
    omega (arith, ordered)

-- A chord on which y is reached, where x is reached on one before, begins where that one ends, or after it.
later_chord : (c : Cubic) (x y j k : ℕ) → j < k → IsOnChord c x j → parameter_after c x j ≤ parameter_after c y k
later_chord c x y j k lt on =
    let whole : steps_of_chord * (j + 1) ≤ steps_of_chord * k = mul-le-mul_left steps_of_chord (omega (arith, lt)) in
    omega (arith, on_grid c x j on, whole)

-- The length of the first chords does not fall.
until_ordered : (c : Cubic) (j k : ℕ) → j ≤ k → until c j ≤ until c k
unfolding length_of_chords
until_ordered c j zero le = let e : j ≡ 0 = omega (arith, le) in subst (λ (n : ℕ). until c n ≤ until c 0) (sym e) (omega arith)
until_ordered c j (suc k) le = elim (cases_lt k j) [
  | inl more ↦
      let e : j ≡ suc k = omega (arith, more, le) in
      subst (λ (n : ℕ). until c n ≤ until c (suc k)) (sym e) (omega arith)
  | inr less ↦ omega (arith, until_ordered c j k less)
]

chords_ordered : (c : Cubic) (x y j k : ℕ) → x ≤ y → IsOnChord c x j → IsOnChord c y k → j ≤ k
chords_ordered c x y j k le first second = elim (cases_lt k j) [
  | inl less ↦
      absurd (omega (
        arith,
        le,
        first.from,
        second.to,
        length_of_next c measuring_chords k,
        until_ordered c (k + 1) j (omega (arith, less)),
      ))
  | inr more ↦ more
]

after_ordered : (c : Cubic) (x y j k : ℕ) → x ≤ y → IsOnChord c x j → IsOnChord c y k
    → parameter_after c x j ≤ parameter_after c y k
after_ordered c x y j k le first second = elim (cases_lt j k) [
  | inl less ↦ later_chord c x y j k less first
  | inr more ↦
      let e : j ≡ k = omega (arith, more, chords_ordered c x y j k le first second) in
      subst (λ (n : ℕ). parameter_after c x j ≤ parameter_after c y n) e (same_chord c x y j le first)
]

within_grid : (c : Cubic) (x k : ℕ) → IsOnChord c x k → parameter_after c x k ≤ grid_steps
within_grid c x k on = omega (arith, on_grid c x k on, on.within)

-- The parameter at a greater length is not smaller.
pub parameters_ordered : (c : Cubic) (x y : ℕ) → x ≤ y → y ≤ curve_length c → parameter_at c x ≤ parameter_at c y
parameters_ordered c x y le within = elim (cases_order x 0) [
  | inl none ↦ omega (arith, ap (parameter_at c) none ∙ at_start c)
  | inr (inl less) ↦ absurd (omega (arith, less))
  | inr (inr some) ↦
      let other : x ≢ 0 = omega (arith, some) in
      let later : y ≢ 0 = omega (arith, some, le) in
      let here = found_on c x some (omega (arith, le, within)) in
      elim (cases_order y (curve_length c)) [
        | inl whole ↦ elim (cases_order x (curve_length c)) [
          | inl all ↦ omega (arith, at_end c x other all, at_end c y later whole)
          | inr (inl part) ↦
              let inside : x ≢ curve_length c = omega (arith, part) in
              omega (arith, at_inside c x other inside, within_grid c x (chords_passed c x) here, at_end c y later whole)
          | inr (inr more) ↦ absurd (omega (arith, more, le, within))
        ]
        | inr (inl part) ↦
            let there = found_on c y (omega (arith, some, le)) within in
            let first : x ≢ curve_length c = omega (arith, part, le) in
            let second : y ≢ curve_length c = omega (arith, part) in
            omega (
              arith,
              at_inside c x other first,
              at_inside c y later second,
              after_ordered c x y (chords_passed c x) (chords_passed c y) le here there,
            )
        | inr (inr more) ↦ absurd (omega (arith, more, within))
      ]
]
