-- Each kind of values has a value where it has no fault, and so has each property.
use Rattle.std.proofs.Common.{◌+◌, int_lt, ℕ, ℤ, Bool, false, List, [], ◌∷◌, Option, Some, None, refl, if◌then◌else◌}
use Rattle.std.specs.Prelude.{codes}
use Rattle.lot_types.specs.declared.fault.FaultCode.TheVariants as code
use Rattle.lot_types.specs.declared.slot.SlotKind.{SlotKind}
use Rattle.lot_types.specs.declared.slot.SlotKind.TheVariants as slot_kind
use Rattle.lot_types.specs.declared.prop.Prop.{Prop}
use Rattle.lot_types.specs.declared.prop.Prop.TheVariants.{Own}
use Rattle.lot_types.specs.declared.prop.Track.{Track}
use Rattle.lot_types.specs.declared.prop.Track.TheVariants.{Still, Moving}
use Rattle.lot_types.specs.declared.point.Point.{Point}
use Rattle.lot_types.specs.declared.color.Color.{Color}
use Rattle.lot_json.specs.declared.tree.json.Json.{Json, out-Json}
use Rattle.lot_json.specs.declared.tree.json.Json.TheOpen as tree
use Rattle.lot_json.specs.declared.tree.number.Number.{Number}
use Rattle.lot_json.specs.declared.tree.number.Number.TheVariants.{Micro, Beyond}
use Rattle.lot_json.specs.declared.tree.pointer.Step.{Step}
use Rattle.lot_json.specs.Lookup.{member}
use Rattle.lot_read.specs.declared.slot_name.SlotName.{SlotName}
use Rattle.lot_read.specs.declared.slot_name.SlotName.TheVariants.{Unnamed, Unknown, Known}
use Rattle.lot_read.specs.declared.track.Absence.{Absence}
use Rattle.lot_read.specs.declared.track.Absence.TheVariants.{Missing, NoValue}
use Rattle.lot_read.specs.Bezier.{bezier, vertex_rows, bezier_of, bezier_rows, as_many, differ, count_in}
use Rattle.lot_read.specs.Color.{color, three_parts, part}
use Rattle.lot_read.specs.Findings.{Findings, Reader, Pairs, under, item, good, bad, ◌⊛◌, ◌also◌, ◌then◌, ◌on◌}
use Rattle.lot_read.specs.Flag.{flag, unset, is_not_zero}
use Rattle.lot_read.specs.Gradient.{gradient, counted, miscounted}
use Rattle.lot_types.specs.declared.key.Key.{Key}
use Rattle.lot_types.specs.Handles.{Handles, nearest_handles}
use Rattle.lot_read.specs.Handle.{coordinates, three_of, three_or_refused, for_each_component, handle_rows}
use Rattle.lot_read.specs.declared.bezier.Vertices.{Vertices}
use Rattle.lot_read.specs.declared.keyframe.Tangents.{Tangents}
use Rattle.lot_read.specs.Keyframe.{not_before, time_rows, time_of, start_value, both_handles, ease_rows, no_tangent, space_tangent, tangent_rows, key_of, key_rows, each_key, some_items, keys}
use Rattle.lot_read.specs.Lists.{at_most, list, length_of}
use Rattle.lot_types.specs.Limits.{max_list_items}
use Rattle.lot_read.specs.Number.{any, in_range, number, scalar}
use Rattle.lot_read.specs.Property.{no_expression, slot_found, slot_name, own, by_name, property_rows, property, track_rows}
use Rattle.lot_read.specs.Rows.{maybe}
use Rattle.lot_read.specs.SlotNames.{Names, place_of}
use Rattle.lot_read.specs.Sound.{IsSound, ReadsSoundly, RowsAreSound}
use Rattle.lot_read.specs.Text.{text}
use Rattle.lot_read.specs.Track.{track, absent, still, moving, by_flag, moves}
use Rattle.lot_read.specs.Vector.{vector, two_numbers}
use Rattle.lot_read.specs.Whole.{whole, allowed, allowed_or_refused}
use Rattle.lot_read.proofs.Sound.{at_most_sound, good_sound, bad_sound, if_sound, row_sound, also_sound, then_sound, on_sound, needed_sound, optional_sound, maybe_sound, object_sound, list_sound, value_or_first_sound}

in_range_sound : (fits : ℤ → Bool) (at : List Step) (n : Number) → IsSound (in_range fits at n)
in_range_sound fits at (Micro z) = if_sound (fits z) (good_sound z) (bad_sound code.Range at)
in_range_sound fits at Beyond = bad_sound code.Range at

pub number_sound : (fits : ℤ → Bool) → ReadsSoundly (number fits)
unfolding number
number_sound fits at j =
    elim (out-Json j) as (λ v. let found : Findings ℤ = elim v [ tree.Number n ↦ in_range fits at n | _ ↦ bad code.Kind at ] in IsSound found) [
      | tree.Number n ↦ in_range_sound fits at n
      | _ ↦ bad_sound code.Kind at
    ]

is_not_zero_sound : (at : List Step) (n : Number) → IsSound (is_not_zero at n)
is_not_zero_sound at (Micro z) = good_sound _
is_not_zero_sound at Beyond = bad_sound code.Range at

pub flag_sound : ReadsSoundly flag
unfolding flag
flag_sound at j =
    elim (out-Json j) as (λ v. let found : Findings Bool = elim v [ tree.Bool b ↦ good b | tree.Number n ↦ is_not_zero at n | _ ↦ bad code.Kind at ] in IsSound found) [
      | tree.Bool b ↦ good_sound b
      | tree.Number n ↦ is_not_zero_sound at n
      | _ ↦ bad_sound code.Kind at
    ]

pub unset_sound : ReadsSoundly unset
unfolding unset
unset_sound at j =
    then_sound (λ (b : Bool). if b then bad code.Unsupported at else good b) (flag_sound at j) (λ b. if_sound b (bad_sound code.Unsupported at) (good_sound b))

allowed_sound : (at : List Step) (n : Option ℕ) → IsSound (allowed_or_refused at n)
allowed_sound at (Some n) = good_sound n
allowed_sound at None = bad_sound code.Value at

pub whole_sound : (low high : ℕ) → ReadsSoundly (whole low high)
unfolding whole
whole_sound low high at j =
    then_sound (λ (z : ℤ). allowed_or_refused at (allowed low high z)) (number_sound any at j) (λ z. allowed_sound at (allowed low high z))

pub text_sound : ReadsSoundly text
unfolding text
text_sound at j =
    elim (out-Json j) as (λ v. let found : Findings (List ℕ) = elim v [ tree.Text t ↦ good t | _ ↦ bad code.Kind at ] in IsSound found) [
      | tree.Text t ↦ good_sound t
      | _ ↦ bad_sound code.Kind at
    ]

-- The kinds of values of properties.
pub scalar_sound : ReadsSoundly scalar
scalar_sound = value_or_first_sound (number_sound any)

two_sound : (at : List Step) (js : List Json) → IsSound (two_numbers at js)
two_sound at (x ∷ y ∷ more) =
    row_sound (row_sound (good_sound (λ (x y : ℤ). record { x = x; y = y })) (number_sound any (item at 0) x)) (number_sound any (item at 1) y)
two_sound at (x ∷ []) = bad_sound code.Count at
two_sound at [] = bad_sound code.Count at

pub vector_sound : ReadsSoundly vector
unfolding vector
vector_sound at j =
    elim (out-Json j) as (λ v. let found : Findings Point = elim v [ tree.Items js ↦ two_numbers at js | _ ↦ bad code.Kind at ] in IsSound found) [
      | tree.Items js ↦ two_sound at js
      | _ ↦ bad_sound code.Kind at
    ]

abbrev color_of : ℤ → ℤ → ℤ → Color
color_of r g b = record { r = part r; g = part g; b = part b }

three_sound : (at : List Step) (js : List Json) → IsSound (three_parts at js)
three_sound at (r ∷ g ∷ b ∷ more) =
    row_sound (row_sound (row_sound (good_sound color_of) (number_sound any (item at 0) r)) (number_sound any (item at 1) g)) (number_sound any (item at 2) b)
three_sound at (r ∷ g ∷ []) = bad_sound code.Count at
three_sound at (r ∷ []) = bad_sound code.Count at
three_sound at [] = bad_sound code.Count at

pub color_sound : ReadsSoundly color
unfolding color
color_sound at j =
    elim (out-Json j) as (λ v. let found : Findings Color = elim v [ tree.Items js ↦ three_parts at js | _ ↦ bad code.Kind at ] in IsSound found) [
      | tree.Items js ↦ three_sound at js
      | _ ↦ bad_sound code.Kind at
    ]

as_many_sound : (name : List ℕ) (at : List Step) (vertices tangents : Option ℕ) → IsSound (as_many name at vertices tangents)
unfolding as_many
as_many_sound name at vertices tangents = if_sound (differ vertices tangents) (bad_sound code.Count (under at name)) (good_sound tt)

abbrev vertices_of : List Point → List Point → List Point → Vertices
vertices_of v i o = record { v = v; i = i; o = o }

vertex_rows_sound : RowsAreSound vertex_rows
unfolding vertex_rows
vertex_rows_sound at m =
    row_sound
    (row_sound
    (row_sound (good_sound vertices_of) (needed_sound (codes "v") (list_sound max_list_items vector_sound) at m))
    (needed_sound (codes "i") (list_sound max_list_items vector_sound) at m))
    (needed_sound (codes "o") (list_sound max_list_items vector_sound) at m)

bezier_rows_sound : RowsAreSound bezier_rows
unfolding bezier_rows
bezier_rows_sound at m =
    also_sound
    (also_sound
    (row_sound (row_sound (good_sound bezier_of) (optional_sound (codes "c") false flag_sound at m)) (vertex_rows_sound at m))
    (as_many_sound (codes "i") at (count_in (codes "v") m) (count_in (codes "i") m)))
    (as_many_sound (codes "o") at (count_in (codes "v") m) (count_in (codes "o") m))

pub bezier_sound : ReadsSoundly bezier
bezier_sound = value_or_first_sound (object_sound bezier_rows_sound)

counted_sound : (stops : ℕ) (at : List Step) (n : Option ℕ) → IsSound (counted stops at n)
unfolding counted
counted_sound stops at n = if_sound (miscounted stops n) (bad_sound code.Count at) (good_sound tt)

pub gradient_sound : (stops : ℕ) → ReadsSoundly (gradient stops)
unfolding gradient
gradient_sound stops at j =
    also_sound
    (row_sound (good_sound (λ (flat : List ℤ). record { stops = stops; flat = flat })) (list_sound max_list_items (number_sound any) at j))
    (counted_sound stops at (length_of j))

-- Properties.
absent_sound : {T : Type 0} (absence : Absence) (at : List Step) → IsSound {A = T} (absent absence at)
absent_sound Missing at = bad_sound code.Missing (under at (codes "k"))
absent_sound NoValue at = bad_sound code.NoValue at

still_sound : {T : Type 0} {value : Reader T} → ReadsSoundly value → ReadsSoundly (still value)
still_sound {T} sound at k = row_sound (good_sound (λ (x : T). Still x)) (sound at k)

three_sound_by : (at : List Step) (xs : Option (List ℤ)) → IsSound (three_or_refused at xs)
three_sound_by at (Some xs) = good_sound xs
three_sound_by at None = bad_sound code.Count at

coordinates_sound : ReadsSoundly coordinates
unfolding coordinates
coordinates_sound at j =
    elim (out-Json j) as (λ v.
    let found : Findings (List ℤ) = elim v [
      | tree.Items js ↦ list max_list_items (number any) at j then λ xs. three_or_refused at (three_of xs)
      | _ ↦ good for_each_component ⊛ number any at j
    ] in IsSound found) [
      | tree.Items js ↦ then_sound (λ (xs : List ℤ). three_or_refused at (three_of xs)) (list_sound max_list_items (number_sound any) at j) (λ xs. three_sound_by at (three_of xs))
      | _ ↦ row_sound (good_sound for_each_component) (number_sound any at j)
    ]

handle_rows_sound : RowsAreSound handle_rows
unfolding handle_rows
handle_rows_sound at m =
    row_sound (row_sound (good_sound (λ (x y : List ℤ). nearest_handles x y)) (needed_sound (codes "x") coordinates_sound at m))
    (needed_sound (codes "y") coordinates_sound at m)

not_before_sound : (before : Option ℤ) (at : List Step) (t : ℤ) → IsSound (not_before before at t)
not_before_sound (Some b) at t = if_sound (int_lt t b) (bad_sound code.Order (under at (codes "t"))) (good_sound t)
not_before_sound None at t = good_sound t

time_rows_sound : (before : Option ℤ) → RowsAreSound (time_rows before)
unfolding time_rows
time_rows_sound before at m = then_sound (not_before before at) (needed_sound (codes "t") (number_sound any) at m) (not_before_sound before at)

start_value_sound : {T : Type 0} {value : Reader T} → ReadsSoundly value → RowsAreSound (start_value value)
unfolding start_value
start_value_sound {T} {value} sound at m =
    elim (member (codes "s") m) as (λ v.
    let found : Findings T = elim v [ None ↦ bad code.Unsupported at | Some j ↦ value (under at (codes "s")) j ] in IsSound found) [
      | None ↦ bad_sound code.Unsupported at
      | Some j ↦ sound (under at (codes "s")) j
    ]

tangent_sound : (kind : SlotKind) (name : List ℕ) → RowsAreSound (space_tangent kind name)
unfolding space_tangent
tangent_sound slot_kind.Vector name at m = optional_sound name no_tangent vector_sound at m
tangent_sound slot_kind.Unused name at m = good_sound no_tangent
tangent_sound slot_kind.Scalar name at m = good_sound no_tangent
tangent_sound slot_kind.Color name at m = good_sound no_tangent
tangent_sound slot_kind.Bezier name at m = good_sound no_tangent
tangent_sound (slot_kind.Gradient stops) name at m = good_sound no_tangent

ease_rows_sound : RowsAreSound ease_rows
unfolding ease_rows
ease_rows_sound at m =
    row_sound
    (row_sound (good_sound (λ (o i : Option Handles). both_handles o i)) (maybe_sound (codes "o") (object_sound handle_rows_sound) at m))
    (maybe_sound (codes "i") (object_sound handle_rows_sound) at m)

abbrev tangents_of : Point → Point → Tangents
tangents_of to ti = record { to = to; ti = ti }

tangent_rows_sound : (kind : SlotKind) → RowsAreSound (tangent_rows kind)
unfolding tangent_rows
tangent_rows_sound kind at m =
    row_sound (row_sound (good_sound tangents_of) (tangent_sound kind (codes "to") at m)) (tangent_sound kind (codes "ti") at m)

key_rows_sound : {T : Type 0} (kind : SlotKind) {value : Reader T} (before : Option ℤ) → ReadsSoundly value → RowsAreSound (key_rows kind value before)
unfolding key_rows
key_rows_sound {T} kind before sound at m =
    row_sound
    (row_sound
    (row_sound
    (row_sound
    (row_sound
    (good_sound (λ (t : ℤ) (s : T) (h : Bool) (ease : Option (Handles × Handles)) (tangents : Tangents). key_of t s h ease tangents))
    (time_rows_sound before at m))
    (start_value_sound sound at m))
    (optional_sound (codes "h") false flag_sound at m))
    (ease_rows_sound at m))
    (tangent_rows_sound kind at m)

each_key_sound : {T : Type 0} (kind : SlotKind) {value : Reader T} → ReadsSoundly value → (before : Option ℤ) (at : List Step) (i : ℕ) (js : List Json)
    → IsSound (each_key kind value before at i js)
unfolding each_key
each_key_sound kind sound before at i [] = good_sound []
each_key_sound {T} kind sound before at i (j ∷ js) =
    row_sound
    (row_sound (good_sound (λ (x : Key T) (xs : List (Key T)). x ∷ xs)) (object_sound (key_rows_sound kind before sound) (item at i) j))
    (each_key_sound kind sound (time_of before (item at i) j) at (i + 1) js)

some_items_sound : (at : List Step) (js : List Json) → IsSound (some_items at js)
some_items_sound at [] = bad_sound code.Count at
some_items_sound at (j ∷ js) = good_sound tt

keys_sound : {T : Type 0} (kind : SlotKind) {value : Reader T} → ReadsSoundly value → ReadsSoundly (keys kind value)
unfolding keys
keys_sound {T} kind {value} sound at j =
    elim (out-Json j) as (λ v.
    let found : Findings (List (Key T)) = elim v [
      | tree.Items js ↦ good (λ (_ : Unit {0}) (_ : Unit {0}) (ks : List (Key T)). ks) ⊛ at_most max_list_items at js ⊛ some_items at js ⊛ each_key kind value None at 0 js
      | _ ↦ bad code.Kind at
    ] in IsSound found) [
      | tree.Items js ↦
          row_sound
          (row_sound (row_sound (good_sound (λ (_ : Unit {0}) (_ : Unit {0}) (ks : List (Key T)). ks)) (at_most_sound max_list_items at js)) (some_items_sound at js))
          (each_key_sound kind sound None at 0 js)
      | _ ↦ bad_sound code.Kind at
    ]

moving_sound : {T : Type 0} (kind : SlotKind) {value : Reader T} → ReadsSoundly value → ReadsSoundly (moving kind value)
moving_sound {T} kind sound at k = row_sound (good_sound (λ (ks : List (Key T)). Moving ks)) (keys_sound kind sound at k)

by_flag_sound : {T : Type 0} (kind : SlotKind) {value : Reader T} → ReadsSoundly value → (k : Json) (at : List Step) (a : Option (Option Bool)) → IsSound (by_flag kind value k at a)
by_flag_sound kind sound k at a = if_sound (moves a k) (moving_sound kind sound at k) (still_sound sound at k)

pub track_sound : {T : Type 0} (kind : SlotKind) {value : Reader T} (absence : Absence) → ReadsSoundly value → RowsAreSound (track kind value absence)
unfolding track
track_sound {T} kind {value} absence sound at m =
    elim (member (codes "k") m) as (λ v.
    let found : Findings (Track T) = elim v [
      | None ↦ absent absence at also maybe (codes "a") flag at m
      | Some k ↦ maybe (codes "a") flag at m on by_flag kind value k (under at (codes "k"))
    ] in IsSound found) [
      | None ↦ also_sound (absent_sound absence at) (maybe_sound (codes "a") flag_sound at m)
      | Some k ↦ on_sound (by_flag kind value k (under at (codes "k"))) (maybe_sound (codes "a") flag_sound at m) (by_flag_sound kind sound k (under at (codes "k")))
    ]

own_sound : {T : Type 0} {found : Findings (Track T)} → IsSound found → IsSound (own found)
own_sound {T} h = row_sound (good_sound (λ (t : Track T). Own t)) h

by_name_sound : {T : Type 0} (kind : SlotKind) {value : Reader T} → ReadsSoundly value → (at : List Step) (m : Pairs) (name : Option SlotName)
    → IsSound (by_name kind value at m name)
by_name_sound kind sound at m (Some (Known slot)) = record { some = λ _. refl }
by_name_sound kind sound at m (Some Unknown) = own_sound (track_sound kind NoValue sound at m)
by_name_sound kind sound at m (Some Unnamed) = own_sound (track_sound kind Missing sound at m)
by_name_sound kind sound at m None = own_sound (track_sound kind Missing sound at m)

no_expression_sound : ReadsSoundly no_expression
unfolding no_expression
no_expression_sound at j =
    elim (out-Json j) as (λ v. let found : Findings (Unit {0}) = elim v [ tree.Text t ↦ bad code.Unsupported at | _ ↦ good tt ] in IsSound found) [
      | tree.Text t ↦ bad_sound code.Unsupported at
      | _ ↦ good_sound tt
    ]

slot_name_sound : (names : Names) → ReadsSoundly (slot_name names)
unfolding slot_name
slot_name_sound names at j =
    elim (out-Json j) as (λ v. let found : Findings SlotName = elim v [ tree.Text t ↦ good (slot_found (place_of t names)) | _ ↦ bad code.Kind at ] in IsSound found) [
      | tree.Text t ↦ good_sound (slot_found (place_of t names))
      | _ ↦ bad_sound code.Kind at
    ]

pub property_rows_sound : {T : Type 0} (kind : SlotKind) (names : Names) {value : Reader T} → ReadsSoundly value → RowsAreSound (property_rows kind names value)
unfolding property_rows
property_rows_sound {T} kind names {value} sound at m =
    row_sound
    (row_sound (good_sound (λ (_ : Unit {0}) (p : Prop T). p)) (optional_sound (codes "x") tt no_expression_sound at m))
    (on_sound (by_name kind value at m) (optional_sound (codes "sid") Unnamed (slot_name_sound names) at m) (by_name_sound kind sound at m))

pub property_sound : {T : Type 0} (kind : SlotKind) (names : Names) {value : Reader T} → ReadsSoundly value → ReadsSoundly (property kind names value)
property_sound kind names sound = object_sound (property_rows_sound kind names sound)

pub track_rows_sound : {T : Type 0} (kind : SlotKind) {value : Reader T} → ReadsSoundly value → RowsAreSound (track_rows kind value)
unfolding track_rows
track_rows_sound {T} kind sound at m =
    row_sound
    (row_sound (good_sound (λ (_ : Unit {0}) (t : Track T). t)) (optional_sound (codes "x") tt no_expression_sound at m))
    (track_sound kind Missing sound at m)
