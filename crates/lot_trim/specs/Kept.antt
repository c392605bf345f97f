-- What is kept of the contours of a run, after the Lottie Specification 1.0, "Trim Path". How parts are joined is this
-- project's own.
use Rattle.std.specs.Prelude.{ℕ, ◌-◌, min, max, nat_lt, nat_le, ◌&&◌, Bool, false, List, [], ◌∷◌, ◌++◌, map, flat_map, if◌then◌else◌}
use Rattle.std.specs.List.{list_any}
use Rattle.lot_geom.specs.declared.cubic.Cubic.{Cubic}
use Rattle.lot_geom.specs.Lengths.{curve_length, curves_of, part_between, segment_lengths}
use Rattle.lot_types.specs.declared.contour.Contour.{Contour}
use Rattle.lot_types.specs.declared.outline.Outline.{Outline}
use Rattle.lot_types.specs.declared.seg.Seg.{Seg}
use Rattle.lot_trim.specs.declared.interval.Interval.{Interval}
use Rattle.lot_trim.specs.Run.{length_sum, end_of_segments, end_of_contours, outline_lengths}

-- The part of a curve, which begins at a length of the run, that lies in the interval. It is kept where it has a
-- positive length.
unfoldable pub part_in : Interval → ℕ → Cubic → List Cubic
part_in i start c =
    let from = max i.from start in
    let to = min i.to (length_sum start (curve_length c)) in
    if nat_lt from to then part_between c (from - start) (to - start) ∷ [] else []

-- The parts of curves, one after the other from a length of the run, that lie in the interval.
unfoldable pub parts_in : Interval → ℕ → List Cubic → List Cubic
parts_in i start [] = []
parts_in i start (c ∷ cs) = part_in i start c ++ parts_in i (length_sum start (curve_length c)) cs

-- ---- contours

abbrev pub seg_of : Cubic → Seg
seg_of c = record { c1 = c.p1; c2 = c.p2; end = c.p3 }

-- The open contour of curves of which each begins where the one before it ends. Without curves there is none.
unfoldable pub open_contour : List Cubic → List Contour
open_contour [] = []
open_contour (c ∷ cs) = record { closed = false; start = c.p0; segs = map seg_of (c ∷ cs) } ∷ []

-- What the intervals keep of a contour that begins at a length of the run. The parts in the second interval follow
-- those in the first in one contour where the contour is closed, since they meet at its start; of an open one they are
-- two.
unfoldable pub cut_contour : List Interval → ℕ → Contour → List Contour
cut_contour is start c =
    if c.closed then open_contour (flat_map (λ i. parts_in i start (curves_of c)) is)
    else flat_map (λ i. open_contour (parts_in i start (curves_of c))) is

-- What is between two lengths of the run lies whole in the interval.
abbrev pub lies_in : ℕ → ℕ → Interval → Bool
lies_in from to i = nat_le i.from from && nat_le to i.to

-- A contour that begins at a length of the run has a positive length, and lies whole in one of the intervals.
unfoldable pub is_whole : List Interval → ℕ → List ℕ → Bool
is_whole is start lengths =
    list_any (nat_lt 0) lengths && list_any (lies_in start (end_of_segments start lengths)) is

-- Such a contour stays as it is.
unfoldable pub kept_of : List Interval → ℕ → Contour → List Contour
kept_of is start c = if is_whole is start (segment_lengths c) then c ∷ [] else cut_contour is start c

-- ---- outlines

-- What is kept of contours, one after the other from a length of the run.
unfoldable pub kept_contours : List Interval → ℕ → List Contour → List Contour
kept_contours is start [] = []
kept_contours is start (c ∷ cs) =
    kept_of is start c ++ kept_contours is (end_of_segments start (segment_lengths c)) cs

abbrev pub kept_outline : List Interval → ℕ → Outline → Outline
kept_outline is start o = record { contours = kept_contours is start o.contours }

-- What is kept of outlines, one after the other from a length of the run.
unfoldable pub kept_outlines : List Interval → ℕ → List Outline → List Outline
kept_outlines is start [] = []
kept_outlines is start (o ∷ os) =
    kept_outline is start o ∷ kept_outlines is (end_of_contours start (outline_lengths o)) os
