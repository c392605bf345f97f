-- Each track that the tables give has a keyframe where it moves.
use Rattle.std.proofs.Common.{◌≡◌, ℕ, ℤ, ◌+◌, ◌<◌, Bool, List, [], ◌∷◌, Option, Some, None, codes, length, refl, arith}
use Rattle.lot_types.specs.declared.fault.FaultCode.TheVariants.{Kind, Count, Missing, NoValue}
use Rattle.lot_types.specs.declared.key.Key.{Key}
use Rattle.lot_types.specs.declared.prop.Track.{Track}
use Rattle.lot_types.specs.declared.prop.Track.TheVariants.{Still, Moving}
use Rattle.lot_types.specs.declared.slot.SlotKind.{SlotKind}
use Rattle.lot_types.specs.Limits.{max_list_items}
use Rattle.lot_types.specs.Slots.{HasValue}
use Rattle.lot_json.specs.declared.tree.json.Json.{Json, out-Json}
use Rattle.lot_json.specs.declared.tree.json.Json.TheOpen as tree
use Rattle.lot_json.specs.declared.tree.pointer.Step.{Step}
use Rattle.lot_json.specs.Lookup.{member}
use Rattle.lot_read.specs.declared.track.Absence.{Absence}
use Rattle.lot_read.specs.declared.track.Absence.TheVariants as absence
use Rattle.lot_read.specs.Findings.{Findings, Reader, under, item, good, bad, ◌⊛◌, ◌also◌, ◌on◌}
use Rattle.lot_read.specs.Flag.{flag}
use Rattle.lot_read.specs.Keyframe.{key_rows, time_of, each_key, some_items, keys}
use Rattle.lot_read.specs.Lists.{at_most}
use Rattle.lot_read.specs.Rows.{maybe, object}
use Rattle.lot_read.specs.Track.{moves, still, moving, by_flag, absent, track}
use Rattle.lot_doc.proofs.Only.{GivesOnly, ReadsOnly, RowsGiveOnly, anything, good_only, bad_only, if_only, row_only, any_row_only, also_only, on_only}

abbrev pub TrackHasValue : {T : Type 0} → Track T → Type 0
TrackHasValue t = HasValue (Some t)

each_key_only : {T : Type 0} (kind : SlotKind) (value : Reader T) (before : Option ℤ) (at : List Step) (i : ℕ) (js : List Json)
    → GivesOnly (λ (ks : List (Key T)). length ks ≡ length js) (each_key kind value before at i js)
unfolding each_key
each_key_only kind value before at i [] = good_only [] refl
each_key_only {T} kind value before at i (j ∷ js) =
    row_only (each_key_only kind value (time_of before (item at i) j) at (i + 1) js)
    (any_row_only (object (key_rows kind value before) (item at i) j)
    (good_only (λ (x : Key T) (xs : List (Key T)). x ∷ xs) (λ x xs same. omega (arith, same))))

some_only : (at : List Step) (js : List Json) → GivesOnly (λ _. 0 < length js) (some_items at js)
some_only at [] = bad_only Count at
some_only at (j ∷ js) = good_only tt (omega arith)

keys_only : {T : Type 0} (kind : SlotKind) (value : Reader T) → ReadsOnly (λ (ks : List (Key T)). 0 < length ks) (keys kind value)
unfolding keys
keys_only {T} kind value at j =
    elim (out-Json j) as (λ v.
    let found : Findings (List (Key T)) = elim v [
      | tree.Items js ↦
          good (λ (_ _ : Unit {0}) (ks : List (Key T)). ks) ⊛ at_most max_list_items at js ⊛ some_items at js ⊛ each_key kind value None at 0 js
      | _ ↦ bad Kind at
    ] in
    GivesOnly (λ (ks : List (Key T)). 0 < length ks) found) [
      | tree.Items js ↦
          row_only (each_key_only kind value None at 0 js)
          (row_only (some_only at js)
          (any_row_only (at_most max_list_items at js)
          (good_only (λ (_ _ : Unit {0}) (ks : List (Key T)). ks) (λ _ _ some ks same. omega (arith, some, same)))))
      | _ ↦ bad_only Kind at
    ]

-- A track that stands still has a value.
pub still_has_value : {T : Type 0} (x : T) → TrackHasValue (Still x)
unfolding HasValue
still_has_value x = tt

still_only : {T : Type 0} (value : Reader T) → ReadsOnly TrackHasValue (still value)
still_only {T} value at j = any_row_only (value at j) (good_only (λ (x : T). Still x) still_has_value)

moving_only : {T : Type 0} (kind : SlotKind) (value : Reader T) → ReadsOnly TrackHasValue (moving kind value)
unfolding HasValue
moving_only {T} kind value at j = row_only (keys_only kind value at j) (good_only (λ (ks : List (Key T)). Moving ks) (λ ks some. some))

by_flag_only : {T : Type 0} (kind : SlotKind) (value : Reader T) (k : Json) (at : List Step) (a : Option (Option Bool))
    → GivesOnly TrackHasValue (by_flag kind value k at a)
by_flag_only kind value k at a = if_only (moves a k) (λ _. moving_only kind value at k) (λ _. still_only value at k)

absent_only : {T : Type 0} (why : Absence) (at : List Step) → GivesOnly {A = Track T} TrackHasValue (absent why at)
absent_only absence.Missing at = bad_only Missing (under at (codes "k"))
absent_only absence.NoValue at = bad_only NoValue at

pub track_only : {T : Type 0} (kind : SlotKind) (value : Reader T) (why : Absence) → RowsGiveOnly TrackHasValue (track kind value why)
unfolding track
track_only {T} kind value why at m =
    elim (member (codes "k") m) as (λ v.
    let found : Findings (Track T) = elim v [
      | None ↦ absent why at also maybe (codes "a") flag at m
      | Some k ↦ maybe (codes "a") flag at m on by_flag kind value k (under at (codes "k"))
    ] in
    GivesOnly TrackHasValue found) [
      | None ↦ also_only (maybe (codes "a") flag at m) (absent_only why at)
      | Some k ↦
          on_only (by_flag kind value k (under at (codes "k"))) (anything (maybe (codes "a") flag at m))
          (λ a _. by_flag_only kind value k (under at (codes "k")) a)
    ]
