-- The keyframe in force, where the times of the first n keyframes are not above t and those of the others are.
use Rattle.std.proofs.Common.{◌≡◌, ℕ, ℤ, zero, suc, ◌+◌, ◌<◌, ◌≤◌, Bool, true, false, int_le, List, [], ◌∷◌, length, Option, Some, None, slice_index_or, ap, ◌∙◌, refl, arith, if◌then◌else◌}
use Rattle.lot_types.specs.declared.key.Key.{Key}
use Rattle.lot_prop.specs.InForce.{first_of, later_or, in_force}

-- The keyframe after the k-th.
abbrev pub after : {A : Type 0} → List (Key A) → ℕ → Option (Key A)
after [] k = None
after (key ∷ keys) zero = first_of keys
after (key ∷ keys) (suc k) = after keys k

pub after_last : {A : Type 0} (keys : List (Key A)) (k : ℕ) → length keys ≤ k + 1 → after keys k ≡ None
after_last [] k h = refl
after_last (key ∷ []) zero h = refl
after_last (key ∷ other ∷ keys) zero h = absurd (omega (arith, h))
after_last (key ∷ keys) (suc k) h = after_last keys k (omega (arith, h))

after_suc : {A : Type 0} (keys : List (Key A)) (k : ℕ) (d : Key A) → suc k < length keys → after keys k ≡ Some (slice_index_or keys (suc k) d)
after_suc [] k d h = absurd (omega (arith, h))
after_suc (key ∷ []) zero d h = absurd (omega (arith, h))
after_suc (key ∷ other ∷ keys) zero d h = refl
after_suc (key ∷ keys) (suc k) d h = after_suc keys k d (omega (arith, h))

pub after_other : {A : Type 0} (keys : List (Key A)) (k : ℕ) (d : Key A) → k + 1 < length keys → after keys k ≡ Some (slice_index_or keys (k + 1) d)
after_other keys k d h =
    let same : suc k ≡ k + 1 = omega arith in
    after_suc keys k d (omega (arith, h)) ∙ ap (λ (i : ℕ). Some (slice_index_or keys i d)) same

pub in_force_none : {A : Type 0} (t : ℤ) (keys : List (Key A)) → ((k : ℕ) (d : Key A) → k < length keys → int_le (slice_index_or keys k d).t t ≡ false) → in_force t keys ≡ None
unfolding in_force
in_force_none t [] above = refl
in_force_none t (key ∷ keys) above =
    ap (λ o. later_or o (if int_le key.t t then Some (record { key = key; next = first_of keys }) else None))
    (in_force_none t keys (λ k d h. above (suc k) d (omega (arith, h))))
    ∙ ap (λ (b : Bool). if b then Some (record { key = key; next = first_of keys }) else None) (above 0 key (omega arith))

pub in_force_at : {A : Type 0} (t : ℤ) (keys : List (Key A)) (n : ℕ) (d : Key A) → n < length keys
    → ((k : ℕ) (d : Key A) → k ≤ n → int_le (slice_index_or keys k d).t t ≡ true)
    → ((k : ℕ) (d : Key A) → n < k → k < length keys → int_le (slice_index_or keys k d).t t ≡ false)
    → in_force t keys ≡ Some (record { key = slice_index_or keys n d; next = after keys n })
unfolding in_force
in_force_at t [] n d within upto above = absurd (omega (arith, within))
in_force_at t (key ∷ keys) zero d within upto above =
    ap (λ o. later_or o (if int_le key.t t then Some (record { key = key; next = first_of keys }) else None))
    (in_force_none t keys (λ k d h. above (suc k) d (omega arith) (omega (arith, h))))
    ∙ ap (λ (b : Bool). if b then Some (record { key = key; next = first_of keys }) else None) (upto 0 key (omega arith))
in_force_at t (key ∷ keys) (suc n) d within upto above =
    ap (λ o. later_or o (if int_le key.t t then Some (record { key = key; next = first_of keys }) else None))
    (in_force_at t keys n d (omega (arith, within)) (λ k d h. upto (suc k) d (omega (arith, h))) (λ k d h g. above (suc k) d (omega (arith, h)) (omega (arith, g))))
