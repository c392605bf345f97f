-- The tables of features that are left out keep that a tree without faults has a value.
use Rattle.std.proofs.Common.{pos, false, List, [], ◌∷◌, codes}
use Rattle.std.specs.Ordering.{int_eq}
use Rattle.lot_types.specs.declared.fault.FaultCode.TheVariants.{Kind, Unsupported}
use Rattle.lot_json.specs.declared.tree.json.Json.{Json, out-Json}
use Rattle.lot_json.specs.declared.tree.json.Json.TheOpen as tree
use Rattle.lot_json.specs.declared.tree.pointer.Step.{Step}
use Rattle.lot_read.specs.Findings.{Findings, bad}
use Rattle.lot_read.specs.Number.{any}
use Rattle.lot_read.specs.Sound.{IsSound, ReadsSoundly, RowsAreSound}
use Rattle.lot_read.proofs.Sound.{good_sound, bad_sound, if_sound, also_sound, then_sound, optional_sound}
use Rattle.lot_read.proofs.SoundValues.{number_sound, unset_sound}
use Rattle.lot_doc.specs.Feature.{normal_blend, without_items, no_items, left_out, asset_rows}

pub normal_blend_sound : ReadsSoundly normal_blend
unfolding normal_blend
normal_blend_sound at j = then_sound _ (number_sound any at j) (λ z. if_sound (int_eq z (pos 0)) (good_sound tt) (bad_sound Unsupported at))

without_items_sound : (at : List Step) (js : List Json) → IsSound (without_items at js)
without_items_sound at [] = good_sound tt
without_items_sound at (j ∷ js) = bad_sound Unsupported at

no_items_sound : ReadsSoundly no_items
unfolding no_items
no_items_sound at j =
    elim (out-Json j) as (λ v. let found : Findings (Unit {0}) = elim v [ tree.Items js ↦ without_items at js | _ ↦ bad Kind at ] in IsSound found) [
      | tree.Items js ↦ without_items_sound at js
      | _ ↦ bad_sound Kind at
    ]

pub left_out_sound : RowsAreSound left_out
unfolding left_out
left_out_sound at m =
    also_sound (also_sound (also_sound (also_sound (also_sound (good_sound tt)
    (optional_sound (codes "ddd") false unset_sound at m))
    (optional_sound (codes "ao") false unset_sound at m))
    (optional_sound (codes "bm") tt normal_blend_sound at m))
    (optional_sound (codes "ef") tt no_items_sound at m))
    (optional_sound (codes "sy") tt no_items_sound at m)

pub asset_sound : RowsAreSound asset_rows
unfolding asset_rows
asset_sound at m = bad_sound Unsupported at
