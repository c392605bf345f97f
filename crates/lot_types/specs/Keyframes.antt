-- Keyframes in the order of their times, after the Lottie Specification 1.0, "Keyframes". That two of them may have one
-- time is this project's own.
use Rattle.std.specs.Prelude.{◌≡◌, ℕ, ℤ, ◌+◌, ◌-◌, ◌<◌, ◌≤◌, ◌≤ℤ◌, List, length, Option, Some, slice_get, slice_index_or}
use Rattle.lot_types.specs.declared.key.Key.{Key}
use Rattle.lot_types.specs.Limits.{max_list_items}

-- There is at least one keyframe and at most as many as a list may have, and the time of each is at most the time of
-- the next.
pub record IsTimeline {A : Type 0} (keys : List (Key A)) : Type 0 where
  pub some : 0 < length keys
  pub few : length keys ≤ max_list_items
  pub in_order : (k : ℕ) (other : Key A) → k + 1 < length keys
      → (slice_index_or keys k other).t ≤ℤ (slice_index_or keys (k + 1) other).t

-- The last keyframe, if there is one.
abbrev pub last_of : {A : Type 0} → List (Key A) → Option (Key A)
last_of keys = slice_get keys (length keys - 1)

-- The time of the last keyframe is at most t.
abbrev pub EndsBy : {A : Type 0} → List (Key A) → ℤ → Type 0
EndsBy {A} keys t = (last : Key A) → last_of keys ≡ Some last → last.t ≤ℤ t
