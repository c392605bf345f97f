-- The leaves of a shape layer that a style paints.
use Rattle.std.specs.Prelude.{◌≡◌, ℕ, ◌+◌, ◌≤◌, length}
use Rattle.lot_types.specs.declared.painted.Painted.{Painted}

-- They are a range within n leaves, and each of them has a map.
pub record IsWithin (n : ℕ) (p : Painted) : Type 0 where
  pub ordered : p.from ≤ p.to
  pub inside : p.to ≤ n
  pub mapped : p.from + length p.maps ≡ p.to
