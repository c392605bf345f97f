-- The part of a run that a trim keeps, after the Lottie Specification 1.0, "Trim Path". A run is what a trim measures
-- at once: one outline or several. Fractions are millionths of its length. The rounding is this project's own.
use Rattle.std.specs.Prelude.{ℕ, ℤ, pos, ◌+◌, ◌-◌, ◌*◌, ◌^◌, ◌+ℤ◌, min, max, nat_le, int_lt, unsigned_abs, List, [], ◌∷◌, map, if◌then◌else◌}
use Rattle.std.specs.Int.{int_rem_euclid}
use Rattle.lot_num.specs.Round.{nearest, rnd}
use Rattle.lot_trim.specs.declared.cut.TrimCut.{TrimCut}
use Rattle.lot_trim.specs.declared.interval.Interval.{Interval}

-- The whole run.
abbrev pub whole_run : ℕ
whole_run = 10 ^ 6

-- 100 per cent, in millionths.
abbrev pub full_percent : ℕ
full_percent = 100 * 10 ^ 6

-- A number of per cent as a fraction, limited to 0 to 100 per cent.
abbrev pub run_fraction : ℤ → ℕ
run_fraction x =
    if int_lt x (pos 0) then 0
    else if int_lt (pos full_percent) x then whole_run
    else unsigned_abs (rnd x (pos 100))

-- The ends of a trim are exchanged where the first is above the second.
abbrev pub first_fraction : TrimCut → ℕ
first_fraction cut = min (run_fraction cut.s) (run_fraction cut.e)

abbrev pub last_fraction : TrimCut → ℕ
last_fraction cut = max (run_fraction cut.s) (run_fraction cut.e)

-- How much is kept.
unfoldable pub width_of : TrimCut → ℕ
width_of cut = last_fraction cut - first_fraction cut

-- Where what is kept begins. The offset moves it along the run, where 360 degrees are the whole run, and past the end
-- it comes in again at the start.
unfoldable pub start_of : TrimCut → ℕ
start_of cut = unsigned_abs (int_rem_euclid (pos (first_fraction cut) +ℤ rnd cut.o (pos 360)) (pos whole_run))

-- The fractions that are kept, from the first one on for a width. What passes the end of the run is kept at its start.
abbrev pub fractions_from : ℕ → ℕ → List Interval
fractions_from start width =
    if nat_le (start + width) whole_run then record { from = start; to = start + width } ∷ []
    else record { from = start; to = whole_run } ∷ record { from = 0; to = start + width - whole_run } ∷ []

-- The length at a fraction of a run of this length.
abbrev pub length_at : ℕ → ℕ → ℕ
length_at total fraction = nearest (fraction * total) whole_run

abbrev pub lengths_between : ℕ → Interval → Interval
lengths_between total i = record { from = length_at total i.from; to = length_at total i.to }

-- The intervals of lengths that a trim keeps of a run of this length.
unfoldable pub kept_intervals : TrimCut → ℕ → List Interval
kept_intervals cut total = map (lengths_between total) (fractions_from (start_of cut) (width_of cut))
