-- Counts that never fall, and that stay at the last value of their type once they have come to it. These rules are this
-- project's own.
use Rattle.std.specs.Prelude.{◌≡◌, ℕ, ◌+◌, ◌-◌, ◌<◌, ◌≤◌, ◌^◌, ◌⊎◌}

-- The last value of a count of 64 bits.
abbrev pub last : ℕ
last = 2 ^ 64 - 1

-- The count rose: it is above what it was, or has come to its last value.
abbrev pub Rose : ℕ → ℕ → Type 0
Rose before now = (before < now) ⊎ (now ≡ last)

-- The count rose by n, or has come to its last value.
abbrev pub RoseBy : ℕ → ℕ → ℕ → Type 0
RoseBy n before now = (now ≡ before + n) ⊎ (last ≤ now)

-- The count rose by more than n, or has come to its last value.
abbrev pub RoseAbove : ℕ → ℕ → ℕ → Type 0
RoseAbove n before now = (before + n < now) ⊎ (last ≤ now)
