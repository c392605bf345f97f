-- The least number that passes a test, as the function `least` has it.
use Rattle.std.proofs.Common.{◌≡◌, ℕ, zero, suc, ◌<◌, ◌≤◌, Bool, true, false, if◌then◌else◌, ap, ◌∙◌, refl, subst, arith}
use Rattle.std.proofs.lemmas.Bool.{cond-true, cond-false}
use Rattle.lot_num.specs.Least.{least}

-- ---- one step, where b is the test of 0 and m the least after it

within_step : (b : Bool) (m n : ℕ) → m ≤ n → (if b then 0 else suc m) ≤ suc n
within_step true m n h = omega arith
within_step false m n h = omega (arith, h)

passes_step : (b : Bool) (test : ℕ → Bool) (m k : ℕ) → test 0 ≡ b → test k ≡ true
    → ((j : ℕ) → k ≡ suc j → test (suc m) ≡ true) → test (if b then 0 else suc m) ≡ true
passes_step true test m k first passes later = first
passes_step false test m zero first passes later = absurd (cc)
passes_step false test m (suc k) first passes later = later k refl

below_step : (b : Bool) (test : ℕ → Bool) (m k : ℕ) → test 0 ≡ b
    → ((j : ℕ) → j < m → test (suc j) ≡ false) → k < (if b then 0 else suc m) → test k ≡ false
below_step true test m k first later below = absurd (omega (arith, below))
below_step false test m zero first later below = first
below_step false test m (suc k) first later below = later k (omega (arith, below))

-- ---- the laws

pub least_within : (test : ℕ → Bool) (n : ℕ) → least test n ≤ n
unfolding least
least_within test zero = omega arith
least_within test (suc n) = within_step (test 0) _ n (least_within (λ k. test (suc k)) n)

pub least_passes : (test : ℕ → Bool) (n k : ℕ) → k ≤ n → test k ≡ true → test (least test n) ≡ true
unfolding least
least_passes test zero k within passes = let e : k ≡ 0 = omega (arith, within) in subst (λ (j : ℕ). test j ≡ true) e passes
least_passes test (suc n) k within passes =
    passes_step (test 0) test (least (λ j. test (suc j)) n) k refl passes (λ j e.
    least_passes (λ i. test (suc i)) n j (omega (arith, within, e)) (subst (λ (i : ℕ). test i ≡ true) e passes))

pub least_below : (test : ℕ → Bool) (n k : ℕ) → k < least test n → test k ≡ false
unfolding least
least_below test zero k below = absurd (omega (arith, below))
least_below test (suc n) k below =
    below_step (test 0) test (least (λ j. test (suc j)) n) k refl (least_below (λ j. test (suc j)) n) below

-- The least is the number that passes where none below it does.
pub least_is : (test : ℕ → Bool) (n g : ℕ) → g ≤ n → test g ≡ true → ((k : ℕ) → k < g → test k ≡ false) → least test n ≡ g
unfolding least
least_is test zero g within passes below = omega (arith, within)
least_is test (suc n) zero within passes below = cond-true (test 0) 0 (suc (least (λ k. test (suc k)) n)) passes
least_is test (suc n) (suc g) within passes below =
    cond-false (test 0) 0 (suc (least (λ k. test (suc k)) n)) (below 0 (omega arith))
    ∙ ap (λ (k : ℕ). suc k) (least_is (λ k. test (suc k)) n g (omega (arith, within)) passes
    (λ k lt. below (suc k) (omega (arith, lt))))
