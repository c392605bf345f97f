-- Points by their coordinates.
use Rattle.std.specs.Prelude.{ℤ}
use Rattle.lot_types.specs.declared.point.Point.{Point}

abbrev pub point : ℤ → ℤ → Point
point x y = record { x = x; y = y }
