-- What contracts see of a sink, and what a write to it does. These rules are this project's own.
use Rattle.std.specs.Prelude.{◌≡◌, ℕ, ◌≤◌, List, ◌++◌, length, take, Option, Some}

-- What a sink was written: all bytes that it took, in order, where they are known, and the number of its faults.
pub record SinkState : Type 0 where
  pub taken : Option (List ℕ)
  pub faults : ℕ

-- A sink whose bytes are known took these bytes more.
abbrev pub Gains : SinkState → SinkState → List ℕ → Type 0
Gains old new bytes = (taken : List ℕ) → old.taken ≡ Some taken → new.taken ≡ Some (taken ++ bytes)

-- A sink whose bytes are known took a prefix of these bytes more.
abbrev pub GainsPrefix : SinkState → SinkState → List ℕ → Type 0
GainsPrefix old new bytes = (n : ℕ) × (n ≤ length bytes) × Gains old new (take n bytes)
