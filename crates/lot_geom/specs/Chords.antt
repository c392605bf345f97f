-- Chords, by which a curve is measured: the lines between its points at neighbouring parameters. Measuring by chords is
-- this project's own.
use Rattle.std.specs.Prelude.{ℕ, ℤ, zero, suc, ◌+◌, ◌*◌, ◌^◌, unsigned_abs, ◌-ℤ◌}
use Rattle.lot_num.specs.Root.{root}
use Rattle.lot_types.specs.declared.point.Point.{Point}
use Rattle.lot_geom.specs.Cubic.{curve_point}
use Rattle.lot_geom.specs.declared.cubic.Cubic.{Cubic}

-- Where the first k of n chords end.
abbrev pub chord_end : Cubic → ℕ → ℕ → Point
chord_end c n k = curve_point c k n

abbrev pub square_of : ℤ → ℕ
square_of z = unsigned_abs z * unsigned_abs z

-- The distance of two points, rounded down.
unfoldable pub distance : Point → Point → ℕ
distance p q = root (square_of (q.x -ℤ p.x) + square_of (q.y -ℤ p.y))

-- The length of the chord after the first k of n.
abbrev pub length_of_chord : Cubic → ℕ → ℕ → ℕ
length_of_chord c n k = distance (chord_end c n k) (chord_end c n (k + 1))

-- The length of the first k of n chords.
unfoldable pub length_of_chords : Cubic → ℕ → ℕ → ℕ
length_of_chords c n zero = 0
length_of_chords c n (suc k) = length_of_chords c n k + length_of_chord c n k

-- No chord is longer.
abbrev pub max_chord_length : ℕ
max_chord_length = 3 * 10 ^ 13
