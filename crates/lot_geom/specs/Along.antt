-- The point at a fraction of the length of a curve, which is measured by 128 chords. It is this project's own.
use Rattle.std.specs.Prelude.{ℕ, ℤ, List, slice_index, pos, zero, suc, ◌+◌, ◌-◌, ◌*◌, ◌^◌, ◌==◌, Bool, nat_le, int_lt, unsigned_abs, ◌≤ℤ◌, ◌<ℤ◌, ◌+ℤ◌, ◌-ℤ◌, ◌*ℤ◌, if◌then◌else◌}
use Rattle.lot_num.specs.Least.{least}
use Rattle.lot_num.specs.Round.{rnd, limit}
use Rattle.lot_types.specs.declared.point.Point.{Point}
use Rattle.lot_geom.specs.Chords.{chord_end, length_of_chord, length_of_chords, max_chord_length}
use Rattle.lot_geom.specs.declared.cubic.Cubic.{Cubic}

abbrev pub chords : ℕ
chords = 128

-- Where the first k chords end.
abbrev pub end_of_chords : Cubic → ℕ → Point
end_of_chords c k = chord_end c chords k

-- The length of the chord after the first k.
abbrev pub chord_length : Cubic → ℕ → ℕ
chord_length c k = length_of_chord c chords k

-- The length of the first k chords.
abbrev pub length_until : Cubic → ℕ → ℕ
length_until c k = length_of_chords c chords k

-- Until the end of the chord after the first k there are f millionths of the whole length, or more.
abbrev pub chord_reaches : Cubic → ℕ → ℕ → Bool
chord_reaches c f k = nat_le (f * length_until c chords) (10 ^ 6 * length_until c (k + 1))

-- The number of the chords before the first that reaches. The last one does.
abbrev pub chords_before : Cubic → ℕ → ℕ
chords_before c f = least (chord_reaches c f) (chords - 1)

-- The point of the line from p to q at `passed` millionths of units of its length.
abbrev pub on_chord : Point → Point → ℕ → ℤ → Point
on_chord p q length passed =
    if length == 0 then p
    else record {
      x = limit (p.x +ℤ rnd ((q.x -ℤ p.x) *ℤ passed) (pos (10 ^ 6 * length)));
      y = limit (p.y +ℤ rnd ((q.y -ℤ p.y) *ℤ passed) (pos (10 ^ 6 * length)));
    }

-- A fraction in millionths, limited to 0 to 1.
abbrev pub fraction_of : ℤ → ℕ
fraction_of f = if int_lt f (pos 0) then 0 else (if int_lt (pos (10 ^ 6)) f then 10 ^ 6 else unsigned_abs f)

-- The point of the chord after the first k at f millionths of the whole length.
abbrev pub point_after : Cubic → ℕ → ℕ → Point
point_after c f k =
    on_chord (end_of_chords c k) (end_of_chords c (k + 1)) (chord_length c k)
    (pos (f * length_until c chords) -ℤ pos (10 ^ 6 * length_until c k))

-- The point at f millionths of the length of a curve.
unfoldable pub along : Cubic → ℤ → Point
along c f = point_after c (fraction_of f) (chords_before c (fraction_of f))

-- What the code keeps of the chords: the sum of the first k numbers of a list.
unfoldable pub sum_until : List ℕ → ℕ → ℕ
sum_until lengths zero = 0
sum_until lengths (suc k) = sum_until lengths k + slice_index lengths k

-- `passed` millionths are a part of the length of a chord.
pub record IsPassed (passed whole : ℤ) : Type 0 where
  pub from : pos 0 ≤ℤ passed
  pub to : passed ≤ℤ whole
  pub positive : pos 0 <ℤ whole
  pub short : whole ≤ℤ pos (10 ^ 6 * max_chord_length)
