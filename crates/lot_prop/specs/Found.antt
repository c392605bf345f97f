-- Where a time is among keyframes, and what the value is there.
use Rattle.std.specs.Prelude.{◌≡◌, ℕ, ℤ, ◌+◌, ◌<◌, ◌≤◌, ◌≤ℤ◌, ◌<ℤ◌, true, false, int_le, List, Some, length, slice_index_or}
use Rattle.lot_types.specs.declared.key.Key.{Key}
use Rattle.lot_prop.specs.declared.found.Found.{Found}
use Rattle.lot_prop.specs.declared.found.Found.TheVariants.{Held, Between}
use Rattle.lot_prop.specs.Eased.{part_at}
use Rattle.lot_prop.specs.Value.{Between as BetweenValues, keys_value}

-- At the time t the value is that of the k-th keyframe, however values change between keyframes.
pub record IsHeld {A : Type 0} (keys : List (Key A)) (t : ℤ) (k : ℕ) : Type 0 where
  pub within : k < length keys
  pub value : (between : BetweenValues A) (other : Key A)
      → keys_value between t keys ≡ Some (slice_index_or keys k other).value

-- At the time t the value lies between those of the k-th keyframe and the next.
pub record IsBetween {A : Type 0} (keys : List (Key A)) (t : ℤ) (k : ℕ) : Type 0 where
  pub within : k + 1 < length keys
  pub from : (other : Key A) → (slice_index_or keys k other).t ≤ℤ t
  pub to : (other : Key A) → t <ℤ (slice_index_or keys (k + 1) other).t
  pub value : (between : BetweenValues A) (other : Key A) → keys_value between t keys
      ≡ Some (between (part_at (slice_index_or keys k other) (slice_index_or keys (k + 1) other) t)
      (slice_index_or keys k other).value (slice_index_or keys (k + 1) other).value)

-- The times of the first n keyframes are not above t, and those of the others are.
pub record IsCount {A : Type 0} (keys : List (Key A)) (t : ℤ) (n : ℕ) : Type 0 where
  pub within : n ≤ length keys
  pub until : (k : ℕ) (other : Key A) → k < n → int_le (slice_index_or keys k other).t t ≡ true
  pub after : (k : ℕ) (other : Key A) → n ≤ k → k < length keys → int_le (slice_index_or keys k other).t t ≡ false

abbrev pub IsFound : {A : Type 0} → List (Key A) → ℤ → Found → Type 0
IsFound keys t (Held k) = IsHeld keys t k
IsFound keys t (Between k) = IsBetween keys t k
