-- What is left of a run, by how much of it is kept.
use Rattle.std.proofs.Common.{◌≡◌, ◌≢◌, ◌∙◌, ℕ, ◌==◌, true, false, List, [], ◌∷◌, map, ap, sym, if◌then◌else◌, arith}
use Rattle.std.proofs.lemmas.Bool.{cond-true, cond-false}
use Rattle.std.proofs.lemmas.Bool.Decides.{nat_tests}
use Rattle.lot_types.specs.declared.contour.Contour.{Contour}
use Rattle.lot_types.specs.declared.outline.Outline.{Outline}
use Rattle.lot_trim.specs.declared.cut.TrimCut.{TrimCut}
use Rattle.lot_trim.specs.Cut.{whole_run, width_of, kept_intervals}
use Rattle.lot_trim.specs.Kept.{kept_contours, kept_outlines}
use Rattle.lot_trim.specs.Run.{end_of_contours, outline_lengths, run_length}
use Rattle.lot_trim.specs.Trim.{without_contours, trimmed_run}

is_same : (x y : ℕ) → x ≡ y → (x == y) ≡ true
is_same x y h = grind (arith, nat_tests)

is_other : (x y : ℕ) → x ≢ y → (x == y) ≡ false
is_other x y h = grind (arith, nat_tests)

pub nothing_kept : (cut : TrimCut) (os : List Outline) → width_of cut ≡ 0 → trimmed_run cut os ≡ map without_contours os
unfolding trimmed_run
nothing_kept cut os h =
    cond-true (width_of cut == 0) (map without_contours os)
    (if width_of cut == whole_run then os else kept_outlines (kept_intervals cut (run_length os)) 0 os)
    (is_same (width_of cut) 0 h)

pub all_kept : (cut : TrimCut) (os : List Outline) → width_of cut ≢ 0 → width_of cut ≡ whole_run → trimmed_run cut os ≡ os
unfolding trimmed_run
all_kept cut os some h =
    cond-false (width_of cut == 0) (map without_contours os)
    (if width_of cut == whole_run then os else kept_outlines (kept_intervals cut (run_length os)) 0 os)
    (is_other (width_of cut) 0 some)
    ∙ cond-true (width_of cut == whole_run) os (kept_outlines (kept_intervals cut (run_length os)) 0 os)
    (is_same (width_of cut) whole_run h)

pub part_kept : (cut : TrimCut) (os : List Outline) → width_of cut ≢ 0 → width_of cut ≢ whole_run
    → trimmed_run cut os ≡ kept_outlines (kept_intervals cut (run_length os)) 0 os
unfolding trimmed_run
part_kept cut os some part =
    cond-false (width_of cut == 0) (map without_contours os)
    (if width_of cut == whole_run then os else kept_outlines (kept_intervals cut (run_length os)) 0 os)
    (is_other (width_of cut) 0 some)
    ∙ cond-false (width_of cut == whole_run) os (kept_outlines (kept_intervals cut (run_length os)) 0 os)
    (is_other (width_of cut) whole_run part)

-- The run of one outline.
pub part_of_one : (cut : TrimCut) (o : Outline) (contours : List Contour) → width_of cut ≢ 0 → width_of cut ≢ whole_run
    → contours ≡ kept_contours (kept_intervals cut (end_of_contours 0 (outline_lengths o))) 0 o.contours
    → record { contours = contours } ∷ [] ≡ trimmed_run cut (o ∷ [])
unfolding run_length kept_outlines
part_of_one cut o contours some part kept =
    ap (λ (z : List Contour). record { contours = z } ∷ []) kept ∙ sym (part_kept cut (o ∷ []) some part)
