-- Each word of the tables keeps that every value which is found has a property.
use Rattle.std.proofs.Common.{◌≡◌, ℕ, ℤ, ◌+◌, ◌≤◌, Bool, true, false, List, [], ◌∷◌, Option, Some, None, length, nat_le, nat_lt, ◌&&◌, refl, arith, if◌then◌else◌}
use Rattle.std.specs.Bool.{⊤}
use Rattle.std.specs.Option.{IfSome}
use Rattle.std.specs.List.{All}
use Rattle.std.proofs.lemmas.Bool.{leb-true, ltb-false}
use Rattle.std.proofs.lemmas.List.Elements.{All-nil, All-cons}
use Rattle.lot_types.specs.declared.fault.FaultCode.{FaultCode}
use Rattle.lot_types.specs.declared.fault.FaultCode.TheVariants.{Missing, Kind, Range, TooMany, Value}
use Rattle.lot_json.specs.declared.tree.number.Number.{Number}
use Rattle.lot_json.specs.declared.tree.number.Number.TheVariants.{Micro, Beyond}
use Rattle.lot_json.specs.declared.tree.json.Json.{Json, out-Json}
use Rattle.lot_json.specs.declared.tree.json.Json.TheOpen as tree
use Rattle.lot_json.specs.declared.tree.pointer.Step.{Step}
use Rattle.lot_json.specs.Lookup.{member}
use Rattle.lot_read.specs.Findings.{Findings, Reader, Row, Pairs, under, item, good, bad, ◌>>=◌, ◌⊛◌, ◌also◌, ◌then◌, ◌on◌}
use Rattle.lot_read.specs.Lists.{each, at_most, list}
use Rattle.lot_read.specs.Number.{any, in_range, number}
use Rattle.lot_read.specs.Rows.{needed, optional, object}
use Rattle.lot_read.specs.Whole.{whole_number, where_between, allowed, allowed_or_refused, whole}

-- The value, if there is one, has the property.
pub record GivesOnly {A : Type 0} (P : A → Type 0) (found : Findings A) : Type 0 where
  pub only : IfSome found.value P

-- So has whatever a reader reads, and whatever the rows of a table read.
abbrev pub ReadsOnly : {A : Type 0} → (A → Type 0) → Reader A → Type 0
ReadsOnly P reader = (at : List Step) (j : Json) → GivesOnly P (reader at j)

abbrev pub RowsGiveOnly : {A : Type 0} → (A → Type 0) → Row A → Type 0
RowsGiveOnly P row = (at : List Step) (m : Pairs) → GivesOnly P (row at m)

-- The function has values with the property Q at all arguments with the property P.
abbrev pub Takes : {A B : Type 0} → (A → Type 0) → (B → Type 0) → (A → B) → Type 0
Takes {A} P Q f = (x : A) → P x → Q (f x)

abbrev pub TakesAny : {A B : Type 0} → (B → Type 0) → (A → B) → Type 0
TakesAny {A} Q f = (x : A) → Q (f x)

pub anything : {A : Type 0} (found : Findings A) → GivesOnly (λ (_ : A). ⊤) found
anything {A} found = record { only = of found.value }
  where
    of : (v : Option A) → IfSome v (λ (_ : A). ⊤)
    of (Some x) = tt
    of None = tt

pub good_only : {A : Type 0} {P : A → Type 0} (x : A) → P x → GivesOnly P (good x)
good_only x h = record { only = h }

pub bad_only : {A : Type 0} {P : A → Type 0} (code : FaultCode) (at : List Step) → GivesOnly P (bad code at)
bad_only code at = record { only = tt }

pub if_only : {A : Type 0} {P : A → Type 0} (b : Bool) {d e : Findings A} → (b ≡ true → GivesOnly P d) → (b ≡ false → GivesOnly P e)
    → GivesOnly P (if b then d else e)
if_only true h k = h refl
if_only false h k = k refl

applied : {A B : Type 0} (P : A → Type 0) (Q : B → Type 0) (f : Option (A → B)) (x : Option A) → IfSome f (Takes P Q) → IfSome x P
    → IfSome (◌>>=◌ {A = A → B} {B = B} f (λ g. ◌>>=◌ {A = A} {B = B} x (λ y. Some (g y)))) Q
applied P Q (Some f) (Some x) h k = h x k
applied P Q (Some f) None h k = tt
applied P Q None x h k = tt

-- One more row, whose values have the property that the function before asks for.
pub row_only : {A B : Type 0} {P : A → Type 0} {Q : B → Type 0} {d : Findings (A → B)} {e : Findings A}
    → GivesOnly P e → GivesOnly (Takes P Q) d → GivesOnly Q (d ⊛ e)
row_only {P = P} {Q = Q} {d = d} {e = e} k h = record { only = applied P Q d.value e.value h.only k.only }

applied_any : {A B : Type 0} (Q : B → Type 0) (f : Option (A → B)) (x : Option A) → IfSome f (TakesAny Q)
    → IfSome (◌>>=◌ {A = A → B} {B = B} f (λ g. ◌>>=◌ {A = A} {B = B} x (λ y. Some (g y)))) Q
applied_any Q (Some f) (Some x) h = h x
applied_any Q (Some f) None h = tt
applied_any Q None x h = tt

-- One more row, of which nothing is asked.
pub any_row_only : {A B : Type 0} {Q : B → Type 0} {d : Findings (A → B)} (e : Findings A) → GivesOnly (TakesAny Q) d → GivesOnly Q (d ⊛ e)
any_row_only {Q = Q} {d = d} e h = record { only = applied_any Q d.value e.value h.only }

kept : {A B : Type 0} (Q : A → Type 0) (x : Option A) (y : Option B) → IfSome x Q
    → IfSome (◌>>=◌ {A = A} {B = A} x (λ z. ◌>>=◌ {A = B} {B = A} y (λ _. Some z))) Q
kept Q (Some x) (Some y) h = h
kept Q (Some x) None h = tt
kept Q None y h = tt

pub also_only : {A B : Type 0} {Q : A → Type 0} {d : Findings A} (e : Findings B) → GivesOnly Q d → GivesOnly Q (d also e)
also_only {Q = Q} {d = d} e h = record { only = kept Q d.value e.value h.only }

followed : {A B : Type 0} (Q : B → Type 0) (v : Option A) (f : A → Findings B) → ((x : A) → GivesOnly Q (f x))
    → IfSome (◌>>=◌ {A = A} {B = B} v (λ x. (f x).value)) Q
followed Q (Some x) f k = (k x).only
followed Q None f k = tt

pub then_only : {A B : Type 0} {Q : B → Type 0} (d : Findings A) (f : A → Findings B) → ((x : A) → GivesOnly Q (f x)) → GivesOnly Q (d then f)
then_only {Q = Q} d f k = record { only = followed Q d.value f k }

depended : {A B : Type 0} (P : A → Type 0) (Q : B → Type 0) (v : Option A) (f : Option A → Findings B) → IfSome v P
    → ((w : Option A) → IfSome w P → GivesOnly Q (f w)) → IfSome (◌>>=◌ {A = A} {B = B} v (λ _. (f v).value)) Q
depended P Q (Some x) f h k = (k (Some x) h).only
depended P Q None f h k = tt

pub on_only : {A B : Type 0} {P : A → Type 0} {Q : B → Type 0} {d : Findings A} (f : Option A → Findings B)
    → GivesOnly P d → ((v : Option A) → IfSome v P → GivesOnly Q (f v)) → GivesOnly Q (d on f)
on_only {P = P} {Q = Q} {d = d} f h k = record { only = depended P Q d.value f h.only k }

-- The words of rows.
pub needed_only : {A : Type 0} {P : A → Type 0} (name : List ℕ) {reader : Reader A} → ReadsOnly P reader → RowsGiveOnly P (needed name reader)
unfolding needed
needed_only {A} {P} name {reader} reads at m =
    elim (member name m) as (λ v. let found : Findings A = elim v [ None ↦ bad Missing (under at name) | Some j ↦ reader (under at name) j ] in GivesOnly P found) [
      | None ↦ bad_only Missing (under at name)
      | Some j ↦ reads (under at name) j
    ]

pub optional_only : {A : Type 0} {P : A → Type 0} (name : List ℕ) {reader : Reader A} (default : A) → P default → ReadsOnly P reader
    → RowsGiveOnly P (optional name reader default)
unfolding optional
optional_only {A} {P} name {reader} default h reads at m =
    elim (member name m) as (λ v. let found : Findings A = elim v [ None ↦ good default | Some j ↦ reader (under at name) j ] in GivesOnly P found) [
      | None ↦ good_only default h
      | Some j ↦ reads (under at name) j
    ]

pub object_only : {A : Type 0} {P : A → Type 0} {rows : Row A} → RowsGiveOnly P rows → ReadsOnly P (object rows)
unfolding object
object_only {A} {P} {rows} reads at j =
    elim (out-Json j) as (λ v. let found : Findings A = elim v [ tree.Members m ↦ rows at m.pairs | _ ↦ bad Kind at ] in GivesOnly P found) [
      | tree.Members m ↦ reads at m.pairs
      | _ ↦ bad_only Kind at
    ]

-- A number is in its range.
in_range_only : (fits : ℤ → Bool) (at : List Step) (n : Number) → GivesOnly (λ z. fits z ≡ true) (in_range fits at n)
in_range_only fits at (Micro z) = if_only (fits z) (λ so. good_only z so) (λ _. bad_only Range at)
in_range_only fits at Beyond = bad_only Range at

pub number_only : (fits : ℤ → Bool) → ReadsOnly (λ z. fits z ≡ true) (number fits)
unfolding number
number_only fits at j =
    elim (out-Json j) as (λ v. let found : Findings ℤ = elim v [ tree.Number n ↦ in_range fits at n | _ ↦ bad Kind at ] in GivesOnly (λ z. fits z ≡ true) found) [
      | tree.Number n ↦ in_range_only fits at n
      | _ ↦ bad_only Kind at
    ]

-- A whole number is not below the least of its range.
within_only : (at : List Step) (low n : ℕ) (above below : Bool) → nat_le low n ≡ above
    → GivesOnly (λ k. low ≤ k) (allowed_or_refused at (if above && below then Some n else None))
within_only at low n true true e = good_only n (leb-true low n e)
within_only at low n true false e = bad_only Value at
within_only at low n false below e = bad_only Value at

allowed_only : (at : List Step) (low high : ℕ) (n : Option ℕ) → GivesOnly (λ k. low ≤ k) (allowed_or_refused at (n >>= where_between low high))
allowed_only at low high (Some n) = within_only at low n (nat_le low n) (nat_le n high) refl
allowed_only at low high None = bad_only Value at

pub whole_only : (low high : ℕ) → ReadsOnly (λ n. low ≤ n) (whole low high)
unfolding whole
whole_only low high at j =
    then_only (number any at j) (λ (z : ℤ). allowed_or_refused at (allowed low high z)) (λ z. allowed_only at low high (whole_number z))

-- A list has at most as many items as it may have, and each of them has the property.
abbrev pub AreFew : {A : Type 0} → ℕ → (A → Type 0) → List A → Type 0
AreFew max P xs = (length xs ≤ max) × All P xs

abbrev AreAsMany : {A : Type 0} → List Json → (A → Type 0) → List A → Type 0
AreAsMany js P xs = (length xs ≡ length js) × All P xs

each_only : {A : Type 0} {P : A → Type 0} {reader : Reader A} → ReadsOnly P reader → (at : List Step) (i : ℕ) (js : List Json)
    → GivesOnly (AreAsMany js P) (each reader at i js)
unfolding each
each_only {P = P} reads at i [] = good_only [] (refl, All-nil P)
each_only {A} {P} reads at i (j ∷ js) =
    row_only (each_only reads at (i + 1) js)
    (row_only (reads (item at i) j)
    (good_only (λ (x : A) (xs : List A). x ∷ xs) (λ x first xs others. (omega (arith, others.0), All-cons P x xs first others.1))))

at_most_only : (max : ℕ) (at : List Step) (js : List Json) → GivesOnly (λ _. length js ≤ max) (at_most max at js)
at_most_only max at js = if_only (nat_lt max (length js)) (λ _. bad_only TooMany at) (λ few. good_only tt (ltb-false max (length js) few))

pub list_only : {A : Type 0} {P : A → Type 0} (max : ℕ) {reader : Reader A} → ReadsOnly P reader → ReadsOnly (AreFew max P) (list max reader)
unfolding list
list_only {A} {P} max {reader} reads at j =
    elim (out-Json j) as (λ v.
    let found : Findings (List A) = elim v [ tree.Items js ↦ good (λ (_ : Unit {0}) (xs : List A). xs) ⊛ at_most max at js ⊛ each reader at 0 js | _ ↦ bad Kind at ] in GivesOnly (AreFew max P) found) [
      | tree.Items js ↦
          row_only (each_only reads at 0 js)
          (row_only (at_most_only max at js)
          (good_only (λ (_ : Unit {0}) (xs : List A). xs) (λ _ few xs all. (omega (arith, few, all.0), all.1))))
      | _ ↦ bad_only Kind at
    ]
