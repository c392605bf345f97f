-- Trims of outlines, after the Lottie Specification 1.0, "Trim Path".
use Rattle.std.specs.Prelude.{◌==◌, List, [], ◌∷◌, map, flat_map, if◌then◌else◌}
use Rattle.lot_types.specs.declared.outline.Outline.{Outline}
use Rattle.lot_trim.specs.declared.cut.TrimCut.{TrimCut}
use Rattle.lot_trim.specs.Cut.{whole_run, width_of, kept_intervals}
use Rattle.lot_trim.specs.Kept.{kept_outlines}
use Rattle.lot_trim.specs.Run.{run_length}

abbrev pub without_contours : Outline → Outline
without_contours o = record { contours = [] }

-- What a trim leaves of each outline of a run. A trim that keeps nothing leaves no contours, and one that keeps the
-- whole run leaves all as they are, also those without a length.
unfoldable pub trimmed_run : TrimCut → List Outline → List Outline
trimmed_run cut os =
    if width_of cut == 0 then map without_contours os
    else if width_of cut == whole_run then os
    else kept_outlines (kept_intervals cut (run_length os)) 0 os

-- The same where each outline is a run of its own.
unfoldable pub trimmed_each : TrimCut → List Outline → List Outline
trimmed_each cut os = flat_map (λ o. trimmed_run cut (o ∷ [])) os
