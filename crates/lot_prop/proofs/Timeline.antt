-- Keyframes in the order of their times, and the numbers of their times.
use Rattle.std.proofs.Common.{◌≡◌, ℕ, ℤ, zero, suc, ◌+◌, ◌-◌, ◌<◌, ◌≤◌, ◌≤ℤ◌, ◌<ℤ◌, Bool, true, false, not, int_le, int_lt, List, length, slice_index_or, T, sym, subst, refl, arith}
use Rattle.std.proofs.lemmas.Int.{ints}
use lib.Signed.{le_z_yes, lt_z_yes, lt_z_no}
use Rattle.lot_types.specs.declared.key.Key.{Key}
use Rattle.lot_types.specs.Keyframes.{IsTimeline}

is_true : (b : Bool) → T b → b ≡ true
is_true true h = refl
is_true false h = absurd h

pub in_order : (a b : ℤ) → int_le a b ≡ true → a ≤ℤ b
in_order a b e = le_z_yes (subst T (sym e) tt)

pub out_of_order : (a b : ℤ) → int_le a b ≡ false → b <ℤ a
out_of_order a b e = elim (int_lt b a) as (λ v. int_lt b a ≡ v → b <ℤ a) [
  | true ↦ λ f. lt_z_yes (subst T (sym f) tt)
  | false ↦ λ f. absurd (subst T e (lt_z_no {a = b} {b = a} (subst (λ (v : Bool). T (not v)) (sym f) tt)).le)
] refl

earlier : (a b t : ℤ) → a ≤ℤ b → int_le b t ≡ true → int_le a t ≡ true
earlier a b t h e = let k = in_order b t e in let l : a ≤ℤ t = omega (arith, ints, h, k) in is_true (int_le a t) l.le

-- A keyframe n places before one whose time is not above t.
before : {A : Type 0} (keys : List (Key A)) (t : ℤ) (d : Key A) → IsTimeline keys → (n i j : ℕ) → i + n ≡ j → j < length keys
    → int_le (slice_index_or keys j d).t t ≡ true → int_le (slice_index_or keys i d).t t ≡ true
before keys t d line zero i j e within h = subst (λ (k : ℕ). int_le (slice_index_or keys k d).t t ≡ true) (omega (arith, e)) h
before keys t d line (suc n) i j e within h =
    let next : i + 1 + n ≡ j = omega (arith, e) in
    let inside : i + 1 < length keys = omega (arith, next, within) in
    earlier (slice_index_or keys i d).t (slice_index_or keys (i + 1) d).t t (line.in_order i d inside) (before keys t d line n (i + 1) j next within h)

pub partitioned : {A : Type 0} (keys : List (Key A)) (t : ℤ) → IsTimeline keys → (i j : ℕ) (d : Key A) → i ≤ j → j < length keys
    → int_le (slice_index_or keys j d).t t ≡ true → int_le (slice_index_or keys i d).t t ≡ true
partitioned keys t line i j d le within h = before keys t d line (j - i) i j (omega (arith, le)) within h
