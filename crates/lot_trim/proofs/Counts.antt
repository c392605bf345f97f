-- A trim leaves as many outlines.
use Rattle.std.proofs.Common.{◌≡◌, ℕ, suc, List, [], ◌∷◌, ◌++◌, length, map, flat_map, ap, refl, Bool, true, false, ◌==◌, if◌then◌else◌, arith}
use Rattle.std.proofs.lemmas.List.{length-map, length-append}
use Rattle.lot_types.specs.declared.outline.Outline.{Outline}
use Rattle.lot_trim.specs.declared.cut.TrimCut.{TrimCut}
use Rattle.lot_trim.specs.declared.interval.Interval.{Interval}
use Rattle.lot_trim.specs.Cut.{whole_run, width_of, kept_intervals}
use Rattle.lot_trim.specs.Kept.{kept_outlines}
use Rattle.lot_trim.specs.Run.{end_of_contours, outline_lengths, run_length}
use Rattle.lot_trim.specs.Trim.{without_contours, trimmed_run, trimmed_each}

kept_length : (is : List Interval) (start : ℕ) (os : List Outline) → length (kept_outlines is start os) ≡ length os
unfolding kept_outlines
kept_length is start [] = refl
kept_length is start (o ∷ os) = ap suc (kept_length is (end_of_contours start (outline_lengths o)) os)

by_case : (a b : Bool) (xs ys zs : List Outline) (n : ℕ) → length xs ≡ n → length ys ≡ n → length zs ≡ n
    → length (if a then xs else (if b then ys else zs)) ≡ n
by_case true b xs ys zs n x y z = x
by_case false true xs ys zs n x y z = y
by_case false false xs ys zs n x y z = z

pub trimmed_run-length : (cut : TrimCut) (os : List Outline) → length (trimmed_run cut os) ≡ length os
unfolding trimmed_run
trimmed_run-length cut os =
    by_case (width_of cut == 0) (width_of cut == whole_run) (map without_contours os) os
    (kept_outlines (kept_intervals cut (run_length os)) 0 os) (length os)
    (length-map os without_contours) refl (kept_length (kept_intervals cut (run_length os)) 0 os)

joined : (xs ys : List Outline) (n : ℕ) → length xs ≡ 1 → length ys ≡ n → length (xs ++ ys) ≡ suc n
joined xs ys n one others = omega (arith, length-append xs ys, one, others)

pub trimmed_each-length : (cut : TrimCut) (os : List Outline) → length (trimmed_each cut os) ≡ length os
unfolding trimmed_each
trimmed_each-length cut [] = refl
trimmed_each-length cut (o ∷ os) =
    joined (trimmed_run cut (o ∷ [])) (flat_map (λ o. trimmed_run cut (o ∷ [])) os) (length os)
    (trimmed_run-length cut (o ∷ [])) (trimmed_each-length cut os)
