-- Each word of the tables keeps that a tree without faults has a value.
use Rattle.std.proofs.Common.{◌≡◌, ℕ, ◌+◌, Bool, true, false, List, [], ◌∷◌, ◌++◌, Option, Some, None, length, nat_lt, refl, if◌then◌else◌}
use Rattle.std.specs.Option.{IsSome}
use Rattle.lot_types.specs.declared.fault.Fault.{Fault}
use Rattle.lot_types.specs.declared.fault.FaultCode.{FaultCode}
use Rattle.lot_types.specs.declared.fault.FaultCode.TheVariants.{Missing, Kind, Count, Unsupported, TooMany}
use Rattle.lot_json.specs.declared.tree.json.Json.{Json, out-Json}
use Rattle.lot_json.specs.declared.tree.json.Json.TheOpen as tree
use Rattle.lot_json.specs.declared.tree.pointer.Step.{Step}
use Rattle.lot_json.specs.Lookup.{member}
use Rattle.lot_read.specs.Findings.{Findings, Reader, Row, under, item, good, bad, ◌>>=◌, ◌⊛◌, ◌also◌, ◌then◌, ◌on◌}
use Rattle.lot_read.specs.Lists.{each, at_most, list, first_item, value_or_first}
use Rattle.lot_read.specs.Rows.{needed, optional, some, maybe, unbuilt, object}
use Rattle.lot_read.specs.Sound.{IsSound, ReadsSoundly, RowsAreSound}

pub both_none : (xs ys : List Fault) → xs ++ ys ≡ [] → (xs ≡ []) × (ys ≡ [])
both_none [] ys e = (refl, e)
both_none (x ∷ xs) ys e = absurd (cc)

pub good_sound : {A : Type 0} (x : A) → IsSound (good x)
good_sound x = record { some = λ _. refl }

pub bad_sound : {A : Type 0} (code : FaultCode) (at : List Step) → IsSound {A = A} (bad code at)
bad_sound code at = record { some = λ e. absurd (cc) }

pub if_sound : {A : Type 0} (b : Bool) {d e : Findings A} → IsSound d → IsSound e → IsSound (if b then d else e)
if_sound true h k = h
if_sound false h k = k

some_applied : {A B : Type 0} (f : Option (A → B)) (x : Option A) → IsSome f → IsSome x
    → IsSome (◌>>=◌ {A = A → B} {B = B} f (λ g. ◌>>=◌ {A = A} {B = B} x (λ y. Some (g y))))
some_applied (Some f) (Some x) h k = refl
some_applied (Some f) None h k = absurd (cc)
some_applied None x h k = absurd (cc)

pub row_sound : {A B : Type 0} {d : Findings (A → B)} {e : Findings A} → IsSound d → IsSound e → IsSound (d ⊛ e)
row_sound {d = d} {e = e} h k = record {
  some = λ none. let empty = both_none d.faults e.faults none in some_applied d.value e.value (h.some empty.0) (k.some empty.1);
}

some_kept : {A B : Type 0} (x : Option A) (y : Option B) → IsSome x → IsSome y
    → IsSome (◌>>=◌ {A = A} {B = A} x (λ z. ◌>>=◌ {A = B} {B = A} y (λ _. Some z)))
some_kept (Some x) (Some y) h k = refl
some_kept (Some x) None h k = absurd (cc)
some_kept None y h k = absurd (cc)

pub also_sound : {A B : Type 0} {d : Findings A} {e : Findings B} → IsSound d → IsSound e → IsSound (d also e)
also_sound {d = d} {e = e} h k = record {
  some = λ none. let empty = both_none d.faults e.faults none in some_kept d.value e.value (h.some empty.0) (k.some empty.1);
}

some_then : {A B : Type 0} (v : Option A) (f : A → Findings B) → IsSome v → ((x : A) → IsSound (f x))
    → (let faults : List Fault = elim v [ Some x ↦ (f x).faults | None ↦ [] ] in faults ≡ [])
    → IsSome (◌>>=◌ {A = A} {B = B} v (λ x. (f x).value))
some_then (Some x) f h k none = (k x).some none
some_then None f h k none = absurd (cc)

pub then_sound : {A B : Type 0} {d : Findings A} (f : A → Findings B) → IsSound d → ((x : A) → IsSound (f x)) → IsSound (d then f)
then_sound {d = d} f h k = record {
  some = λ none.
      let empty = both_none d.faults (elim d.value [ Some x ↦ (f x).faults | None ↦ [] ]) none in
      some_then d.value f (h.some empty.0) k empty.1;
}

some_on : {A B : Type 0} (v : Option A) (w : Option B) → IsSome v → IsSome w → IsSome (◌>>=◌ {A = A} {B = B} v (λ _. w))
some_on (Some x) w h k = k
some_on None w h k = absurd (cc)

pub on_sound : {A B : Type 0} {d : Findings A} (f : Option A → Findings B) → IsSound d → ((v : Option A) → IsSound (f v)) → IsSound (d on f)
on_sound {d = d} f h k = record {
  some = λ none.
      let empty = both_none d.faults (f d.value).faults none in
      some_on d.value (f d.value).value (h.some empty.0) ((k d.value).some empty.1);
}

-- The words of rows.
pub needed_sound : {A : Type 0} (name : List ℕ) {reader : Reader A} → ReadsSoundly reader → RowsAreSound (needed name reader)
unfolding needed
needed_sound {A} name {reader} sound at m =
    elim (member name m) as (λ v. let found : Findings A = elim v [ None ↦ bad Missing (under at name) | Some j ↦ reader (under at name) j ] in IsSound found) [
      | None ↦ bad_sound Missing (under at name)
      | Some j ↦ sound (under at name) j
    ]

pub optional_sound : {A : Type 0} (name : List ℕ) {reader : Reader A} (default : A) → ReadsSoundly reader → RowsAreSound (optional name reader default)
unfolding optional
optional_sound {A} name {reader} default sound at m =
    elim (member name m) as (λ v. let found : Findings A = elim v [ None ↦ good default | Some j ↦ reader (under at name) j ] in IsSound found) [
      | None ↦ good_sound default
      | Some j ↦ sound (under at name) j
    ]

some_sound : {A : Type 0} {found : Findings A} → IsSound found → IsSound (some found)
some_sound {A} h = row_sound (good_sound (λ (x : A). Some x)) h

pub maybe_sound : {A : Type 0} (name : List ℕ) {reader : Reader A} → ReadsSoundly reader → RowsAreSound (maybe name reader)
unfolding maybe
maybe_sound {A} name {reader} sound at m =
    elim (member name m) as (λ v. let found : Findings (Option A) = elim v [ None ↦ good None | Some j ↦ some (reader (under at name) j) ] in IsSound found) [
      | None ↦ good_sound None
      | Some j ↦ some_sound (sound (under at name) j)
    ]

pub unbuilt_sound : (name : List ℕ) → RowsAreSound (unbuilt name)
unfolding unbuilt
unbuilt_sound name at m =
    elim (member name m) as (λ v. let found : Findings (Unit {0}) = elim v [ None ↦ good tt | Some j ↦ bad Unsupported (under at name) ] in IsSound found) [
      | None ↦ good_sound tt
      | Some j ↦ bad_sound Unsupported (under at name)
    ]

pub object_sound : {A : Type 0} {rows : Row A} → RowsAreSound rows → ReadsSoundly (object rows)
unfolding object
object_sound {A} {rows} sound at j =
    elim (out-Json j) as (λ v. let found : Findings A = elim v [ tree.Members m ↦ rows at m.pairs | _ ↦ bad Kind at ] in IsSound found) [
      | tree.Members m ↦ sound at m.pairs
      | _ ↦ bad_sound Kind at
    ]

-- The words of lists.
pub each_sound : {A : Type 0} {reader : Reader A} → ReadsSoundly reader → (at : List Step) (i : ℕ) (js : List Json) → IsSound (each reader at i js)
unfolding each
each_sound sound at i [] = good_sound []
each_sound {A} sound at i (j ∷ js) =
    row_sound (row_sound (good_sound (λ (x : A) (xs : List A). x ∷ xs)) (sound (item at i) j)) (each_sound sound at (i + 1) js)

pub at_most_sound : (max : ℕ) (at : List Step) (js : List Json) → IsSound (at_most max at js)
at_most_sound max at js = if_sound (nat_lt max (length js)) (bad_sound TooMany at) (good_sound tt)

pub list_sound : {A : Type 0} (max : ℕ) {reader : Reader A} → ReadsSoundly reader → ReadsSoundly (list max reader)
unfolding list
list_sound {A} max {reader} sound at j =
    elim (out-Json j) as (λ v.
    let found : Findings (List A) = elim v [ tree.Items js ↦ good (λ (_ : Unit {0}) (xs : List A). xs) ⊛ at_most max at js ⊛ each reader at 0 js | _ ↦ bad Kind at ] in IsSound found) [
      | tree.Items js ↦ row_sound (row_sound (good_sound (λ (_ : Unit {0}) (xs : List A). xs)) (at_most_sound max at js)) (each_sound sound at 0 js)
      | _ ↦ bad_sound Kind at
    ]

first_sound : {A : Type 0} {reader : Reader A} → ReadsSoundly reader → (at : List Step) (js : List Json) → IsSound (first_item reader at js)
first_sound sound at [] = bad_sound Count at
first_sound sound at (j ∷ js) = sound (item at 0) j

pub value_or_first_sound : {A : Type 0} {reader : Reader A} → ReadsSoundly reader → ReadsSoundly (value_or_first reader)
unfolding value_or_first
value_or_first_sound {A} {reader} sound at j =
    elim (out-Json j) as (λ v. let found : Findings A = elim v [ tree.Items js ↦ first_item reader at js | _ ↦ reader at j ] in IsSound found) [
      | tree.Items js ↦ first_sound sound at js
      | _ ↦ sound at j
    ]
