-- The lengths of a run, in millionths of a pixel: one outline or several, one after the other.
use Rattle.std.specs.Prelude.{ℕ, ◌+◌, ◌^◌, min, List, map, fold}
use Rattle.lot_geom.specs.Lengths.{segment_lengths}
use Rattle.lot_types.specs.declared.outline.Outline.{Outline}

-- Sums of lengths are limited. No outlines of a real document are as long; the limit is this project's own.
abbrev pub max_run_length : ℕ
max_run_length = 10 ^ 30

abbrev pub length_sum : ℕ → ℕ → ℕ
length_sum x y = min (x + y) max_run_length

-- Where segments of these lengths end that begin at a length of the run.
unfoldable pub end_of_segments : ℕ → List ℕ → ℕ
end_of_segments start lengths = fold length_sum start lengths

-- The lengths of the segments of each contour.
abbrev pub outline_lengths : Outline → List (List ℕ)
outline_lengths o = map segment_lengths o.contours

-- Where contours end that begin at a length of the run.
unfoldable pub end_of_contours : ℕ → List (List ℕ) → ℕ
end_of_contours start lengths = fold end_of_segments start lengths

abbrev pub run_lengths : List Outline → List (List (List ℕ))
run_lengths os = map outline_lengths os

-- The length of a run.
unfoldable pub run_length : List Outline → ℕ
run_length os = fold end_of_contours 0 (run_lengths os)
