-- The handles of an easing curve, after the Lottie Specification 1.0, "Keyframe Easing". The range of y is this
-- project's own.
use Rattle.std.specs.Prelude.{◌≡◌, ℤ, pos, neg_ℤ, ◌^◌, ◌≤ℤ◌, List, length, map}
use Rattle.std.specs.List.{All}
use Rattle.std.specs.Int.{int_max, int_min}

-- A handle for each component of a value, in millionths: x is a part of the time, and y a part of the change.
pub record Handles : Type 0 where
  pub x : List ℤ
  pub y : List ℤ

-- The numbers from the first of a pair to the second.
abbrev pub IsIn : ℤ × ℤ → ℤ → Type 0
IsIn range z = (range.0 ≤ℤ z) × (z ≤ℤ range.1)

-- From 0 to 1.
abbrev pub times : ℤ × ℤ
times = (pos 0, pos (10 ^ 6))

-- From -100 to 100.
abbrev pub changes : ℤ × ℤ
changes = (neg_ℤ (pos (10 ^ 8)), pos (10 ^ 8))

-- There are coordinates for each of three components, all of them in their ranges.
pub record AreInRange (x y : List ℤ) : Type 0 where
  pub three_times : length x ≡ 3
  pub three_changes : length y ≡ 3
  pub times : All (IsIn times) x
  pub changes : All (IsIn changes) y

-- The number of a range that is nearest to z.
abbrev pub nearest_in : ℤ × ℤ → ℤ → ℤ
nearest_in range z = int_max range.0 (int_min z range.1)

-- The handles in range that are nearest to these coordinates.
abbrev pub nearest_handles : List ℤ → List ℤ → Handles
nearest_handles x y = record { x = map (nearest_in times) x; y = map (nearest_in changes) y }
