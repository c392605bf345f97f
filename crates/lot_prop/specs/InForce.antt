-- The keyframe that is in force at a time, after the Lottie Specification 1.0, "Keyframes".
use Rattle.std.specs.Prelude.{ℤ, int_le, List, [], ◌∷◌, Option, Some, None, if◌then◌else◌}
use Rattle.lot_types.specs.declared.key.Key.{Key}

-- A keyframe, and the one after it, if there is one.
pub record KeyAndNext (A : Type 0) : Type 0 where
  pub key : Key A
  pub next : Option (Key A)

abbrev pub first_of : {A : Type 0} → List (Key A) → Option (Key A)
first_of [] = None
first_of (key ∷ keys) = Some key

abbrev pub later_or : {A : Type 0} → Option (KeyAndNext A) → Option (KeyAndNext A) → Option (KeyAndNext A)
later_or (Some later) earlier = Some later
later_or None earlier = earlier

-- The last keyframe whose time is not above t, with the one after it. None where every time is above t.
unfoldable pub in_force : {A : Type 0} → ℤ → List (Key A) → Option (KeyAndNext A)
in_force t [] = None
in_force t (key ∷ keys) =
    later_or (in_force t keys) (if int_le key.t t then Some (record { key = key; next = first_of keys }) else None)
