-- Each accepted document has an answer to each task.
use Rattle.std.proofs.Common.{◌≡◌, ℤ, List, [], ◌∷◌, map, Option, Some, None, refl, subst}
use Rattle.std.specs.Prelude.{IsSome}
use Rattle.lot_types.specs.declared.doc.Doc.{Doc}
use Rattle.lot_types.specs.declared.fault.Fault.{Fault}
use Rattle.lot_types.specs.declared.read.Read.{Read}
use Rattle.lot_types.specs.declared.slot.Use.{Use}
use Rattle.lot_types.specs.WellFormed.{IsWellFormed}
use Rattle.lot_types.proofs.Present.{map_present}
use Rattle.lot_json.specs.declared.tree.json.Json.{Json}
use Rattle.lot_read.specs.Findings.{◌>>=◌}
use Rattle.lot_read.proofs.Sound.{both_none}
use Rattle.lot_refs.specs.Linked.{IsValid}
use Rattle.lot_refs.specs.RefFaults.{reported, parent_faults, ref_faults}
use Rattle.lot_doc.specs.Root.{document}
use Rattle.lot_doc.proofs.WellFormed.{value_is_well_formed}
use Rattle.lot_comp.specs.Frame.{finished_frame}
use Rattle.lot_comp.proofs.Present.{frame_present}
use Rattle.lot_play.specs.declared.task.Task.{Task}
use Rattle.lot_play.specs.declared.task.Task.TheVariants.{Check, Frame}
use Rattle.lot_play.specs.Judged.{referenced, judged}
use Rattle.lot_play.specs.Output.{moment, drawn_answer, moment_answer, document_answer}
use Rattle.lot_play.specs.Picture.{picture_text, svg_of}

svg_present : (d : Doc) (t : ℤ) → IsValid d → IsSome (svg_of d t)
unfolding svg_of
svg_present d t valid = map_present (picture_text d) (finished_frame d t) (frame_present d t valid)

moment_present : (d : Doc) (at : Option ℤ) → IsValid d → IsSome (moment_answer d at)
moment_present d None valid = refl
moment_present d (Some t) valid = map_present drawn_answer (svg_of d t) (svg_present d t valid)

answer_present : (d : Doc) (task : Task) → IsValid d → IsSome (document_answer d task)
unfolding document_answer
answer_present d Check valid = refl
answer_present d (Frame time) valid = moment_present d (moment d time) valid

-- A document that is accepted is valid.
valid_doc : (r : Read) → IsWellFormed r → parent_faults r.doc.comps ≡ [] → IsValid r.doc
valid_doc r well hold = record {
  some = well.some;
  few_comps = well.few_comps;
  few_layers = well.few_layers;
  few_slots = well.few_slots;
  named = well.named;
  rate = well.rate;
  slots = well.slots;
  built = well.built;
  parents_hold = hold;
}

same_value : (uses : List Use) (v : Option Doc) (d : Doc) → ◌>>=◌ {A = Doc} {B = Doc} v (λ x. (referenced uses x).value) ≡ Some d → v ≡ Some d
same_value uses (Some x) d is = is
same_value uses None d is = absurd (cc)

none_mapped : {A B : Type 0} (f : A → B) (xs : List A) → map f xs ≡ [] → xs ≡ []
none_mapped f [] none = refl
none_mapped f (x ∷ xs) none = absurd (cc)

abbrev faults_of_references : List Use → Option Doc → List Fault
faults_of_references uses v = elim v [ Some x ↦ (referenced uses x).faults | None ↦ [] ]

accepted_valid : (j : Json) (d : Doc) → (judged j).faults ≡ [] → (judged j).value ≡ Some d → IsValid d
accepted_valid j d none is =
    let uses = (document j).uses in
    let found : (document j).value ≡ Some d = same_value uses (document j).value d is in
    let both = both_none (document j).faults (faults_of_references uses (document j).value) none in
    let hold : ref_faults (record { doc = d; uses = uses }) ≡ [] = subst (λ (v : Option Doc). faults_of_references uses v ≡ []) found both.1 in
    valid_doc (record { doc = d; uses = uses }) (value_is_well_formed j (record { doc = d; uses = uses }) found)
    (none_mapped (reported d) (parent_faults d.comps) hold)

pub accepted_answered : (j : Json) (d : Doc) (task : Task) → (judged j).faults ≡ [] → (judged j).value ≡ Some d
    → IsSome (document_answer d task)
accepted_answered j d task none is = answer_present d task (accepted_valid j d none is)
