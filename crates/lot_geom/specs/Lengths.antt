-- The lengths of the segments of contours, and the part of a curve between two lengths. That a curve is measured by 64
-- chords is this project's own.
use Rattle.std.specs.Prelude.{ℕ, ◌+◌, ◌-◌, ◌*◌, ◌==◌, List, [], ◌∷◌, map, Bool, nat_le, if◌then◌else◌}
use Rattle.lot_num.specs.Easing.{grid_steps}
use Rattle.lot_num.specs.Least.{least}
use Rattle.lot_num.specs.Round.{nearest}
use Rattle.lot_types.specs.declared.contour.Contour.{Contour}
use Rattle.lot_types.specs.declared.point.Point.{Point}
use Rattle.lot_types.specs.declared.seg.Seg.{Seg}
use Rattle.lot_geom.specs.Chords.{length_of_chord, length_of_chords}
use Rattle.lot_geom.specs.Cubic.{part_of}
use Rattle.lot_geom.specs.declared.cubic.Cubic.{Cubic}

-- The number of chords by which a segment is measured.
abbrev pub measuring_chords : ℕ
measuring_chords = 64

-- The length of a curve, in millionths of a pixel.
unfoldable pub curve_length : Cubic → ℕ
curve_length c = length_of_chords c measuring_chords measuring_chords

-- ---- contours

-- A segment as a curve from where the one before it ends.
abbrev pub curve_of : Point → Seg → Cubic
curve_of start s = record { p0 = start; p1 = s.c1; p2 = s.c2; p3 = s.end }

-- Segments as curves, each from the end of the one before it, the first from the given start.
abbrev pub curves_from : Point → List Seg → List Cubic
curves_from start [] = []
curves_from start (s ∷ after) = curve_of start s ∷ curves_from s.end after

abbrev pub curves_of : Contour → List Cubic
curves_of c = curves_from c.start c.segs

-- The length of each segment of a contour.
unfoldable pub segment_lengths : Contour → List ℕ
segment_lengths c = map curve_length (curves_of c)

-- ---- parts of a curve

-- The first k + 1 chords have the length x, or more.
abbrev pub reaches_length : Cubic → ℕ → ℕ → Bool
reaches_length c x k = nat_le x (length_of_chords c measuring_chords (k + 1))

-- The number of the chords before the first one by which the length x is reached.
abbrev pub chords_passed : Cubic → ℕ → ℕ
chords_passed c x = least (reaches_length c x) (measuring_chords - 1)

-- The number of steps of the grid of parameters that each chord has.
abbrev pub steps_of_chord : ℕ
steps_of_chord = 1024

-- The parameter at the length x, where it is on the chord after the first k: in proportion to the chord's length.
abbrev pub parameter_after : Cubic → ℕ → ℕ → ℕ
parameter_after c x k =
    steps_of_chord * k + nearest (steps_of_chord * (x - length_of_chords c measuring_chords k))
    (length_of_chord c measuring_chords k)

-- The parameter at the length x from the start of a curve, as a step of the grid. That of the whole length is the last
-- one, also where the last chords have the length 0.
unfoldable pub parameter_at : Cubic → ℕ → ℕ
parameter_at c x =
    if x == 0 then 0
    else if x == curve_length c then grid_steps
    else parameter_after c x (chords_passed c x)

-- The part of a curve from one length to another.
unfoldable pub part_between : Cubic → ℕ → ℕ → Cubic
part_between c from to = part_of c (parameter_at c from) (parameter_at c to)
