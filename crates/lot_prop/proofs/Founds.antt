-- What the number of the keyframes until a time says of the value there.
use Rattle.std.proofs.Common.{◌≡◌, ℕ, ℤ, zero, suc, ◌+◌, ◌<◌, Bool, true, false, List, [], ◌∷◌, length, Option, Some, None, slice_index_or, ap, ◌∙◌, refl, arith, if◌then◌else◌}
use Rattle.lot_types.specs.declared.key.Key.{Key}
use Rattle.lot_prop.specs.InForce.{KeyAndNext, in_force, first_of}
use Rattle.lot_prop.specs.Eased.{part_at}
use Rattle.lot_prop.specs.Value.{Between, from_key, value_of_key}
use Rattle.lot_prop.specs.Found.{IsHeld, IsBetween, IsCount}
use Rattle.lot_prop.proofs.InForceAt.{after, after_last, after_other, in_force_none, in_force_at}
use Rattle.lot_prop.proofs.Timeline.{in_order, out_of_order}

abbrev pub value_by : {A : Type 0} → Between A → ℤ → List (Key A) → Option (KeyAndNext A) → Option A
value_by between t keys found = elim found [
  | None ↦ value_of_key (first_of keys)
  | Some found ↦ Some (from_key between t found.key found.next)
]

first_is : {A : Type 0} (keys : List (Key A)) (d : Key A) → 0 < length keys → value_of_key (first_of keys) ≡ Some (slice_index_or keys 0 d).value
first_is [] d h = absurd (omega (arith, h))
first_is (key ∷ keys) d h = refl

-- No time is at most t.
pub held_before : {A : Type 0} (keys : List (Key A)) (t : ℤ) → 0 < length keys → IsCount keys t 0 → IsHeld keys t 0
held_before keys t some count = record {
  within = some;
  value = λ between d.
      ap (value_by between t keys) (in_force_none t keys (λ k d h. count.after k d (omega arith) h)) ∙ first_is keys d some;
}

in_force_last : {A : Type 0} (keys : List (Key A)) (t : ℤ) (k : ℕ) (d : Key A) → IsCount keys t (k + 1)
    → in_force t keys ≡ Some (record { key = slice_index_or keys k d; next = after keys k })
in_force_last keys t k d count =
    let within = count.within in
    in_force_at t keys k d (omega (arith, within)) (λ i d h. count.until i d (omega (arith, h))) (λ i d h g. count.after i d (omega (arith, h)) g)

-- The last keyframe, and one that holds.
pub held_last : {A : Type 0} (keys : List (Key A)) (t : ℤ) (k : ℕ) → IsCount keys t (k + 1) → k + 1 ≡ length keys → IsHeld keys t k
held_last keys t k count last = record {
  within = omega (arith, last);
  value = λ between d.
      ap (value_by between t keys) (in_force_last keys t k d count)
      ∙ ap (λ next. Some (from_key between t (slice_index_or keys k d) next)) (after_last keys k (omega (arith, last)));
}

-- A keyframe that is there does not depend on the one in place of a missing one.
same_key : {A : Type 0} (keys : List (Key A)) (k : ℕ) (d e : Key A) → k < length keys → slice_index_or keys k d ≡ slice_index_or keys k e
same_key [] k d e h = absurd (omega (arith, h))
same_key (key ∷ keys) zero d e h = refl
same_key (key ∷ keys) (suc k) d e h = same_key keys k d e (omega (arith, h))

hold_is : {A : Type 0} (between : Between A) (t : ℤ) (key next : Key A) (b : Bool) → key.hold ≡ b → b ≡ true → from_key between t key (Some next) ≡ key.value
hold_is between t key next b e h = ap (λ (b : Bool). if b then key.value else between (part_at key next t) key.value next.value) (e ∙ h)

moves_is : {A : Type 0} (between : Between A) (t : ℤ) (key next : Key A) → key.hold ≡ false
    → from_key between t key (Some next) ≡ between (part_at key next t) key.value next.value
moves_is between t key next e = ap (λ (b : Bool). if b then key.value else between (part_at key next t) key.value next.value) e

pub held_on : {A : Type 0} (keys : List (Key A)) (t : ℤ) (k : ℕ) → IsCount keys t (k + 1) → k + 1 < length keys
    → (e : Key A) → (slice_index_or keys k e).hold ≡ true → IsHeld keys t k
held_on keys t k count more e holds = record {
  within = omega (arith, more);
  value = λ between d.
      ap (value_by between t keys) (in_force_last keys t k d count)
      ∙ ap (λ next. Some (from_key between t (slice_index_or keys k d) next)) (after_other keys k d more)
      ∙ ap (λ x. Some x) (hold_is between t (slice_index_or keys k d) (slice_index_or keys (k + 1) d) true
      (ap (λ key. key.hold) (same_key keys k d e (omega (arith, more))) ∙ holds) refl);
}

pub is_between : {A : Type 0} (keys : List (Key A)) (t : ℤ) (k : ℕ) → IsCount keys t (k + 1) → k + 1 < length keys
    → (e : Key A) → (slice_index_or keys k e).hold ≡ false → IsBetween keys t k
is_between keys t k count more e moves = record {
  within = more;
  from = λ d. in_order (slice_index_or keys k d).t t (count.until k d (omega arith));
  to = λ d. out_of_order (slice_index_or keys (k + 1) d).t t (count.after (k + 1) d (omega arith) more);
  value = λ between d.
      ap (value_by between t keys) (in_force_last keys t k d count)
      ∙ ap (λ next. Some (from_key between t (slice_index_or keys k d) next)) (after_other keys k d more)
      ∙ ap (λ x. Some x) (moves_is between t (slice_index_or keys k d) (slice_index_or keys (k + 1) d)
      (ap (λ key. key.hold) (same_key keys k d e (omega (arith, more))) ∙ moves));
}
