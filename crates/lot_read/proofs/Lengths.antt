-- What is read of a list has as many items as the list.
use Rattle.std.proofs.Common.{◌≡◌, ℕ, ◌+◌, ◌≤◌, Bool, true, false, nat_lt, List, [], ◌∷◌, Option, Some, None, length, if◌then◌else◌, refl, ap, sym, arith}
use Rattle.std.proofs.lemmas.Bool.{ltb-false}
use Rattle.lot_json.specs.declared.tree.json.Json.{Json, out-Json}
use Rattle.lot_json.specs.declared.tree.json.Json.TheOpen as tree
use Rattle.lot_json.specs.declared.tree.pointer.Step.{Step}
use Rattle.lot_json.specs.Lookup.{member}
use Rattle.lot_types.specs.declared.fault.FaultCode.TheVariants.{Kind, Missing, TooMany}
use Rattle.lot_read.specs.Findings.{Findings, Reader, Pairs, under, item, good, bad, ◌>>=◌, ◌⊛◌}
use Rattle.lot_read.specs.Lists.{each, list, at_most, length_of}
use Rattle.lot_read.specs.Rows.{needed}
use Rattle.lot_read.specs.Bezier.{count_in}

-- A first item and the items after it, where both are read.
abbrev both : {A : Type 0} → Option A → Option (List A) → Option (List A)
both {A} x ys = ◌>>=◌ {A = List A → List A} {B = List A} (◌>>=◌ {A = A} {B = List A → List A} x (λ y. Some (λ t. y ∷ t))) (λ f. ◌>>=◌ {A = List A} {B = List A} ys (λ t. Some (f t)))

read_both : {A : Type 0} (x : Option A) (ys : Option (List A)) (zs : List A) → both x ys ≡ Some zs → (t : List A) × (ys ≡ Some t) × (length zs ≡ length t + 1)
read_both (Some x) (Some ys) zs e = let h : zs ≡ x ∷ ys = cc in (ys, refl, omega (arith, ap length h))
read_both (Some x) None zs e = absurd (cc)
read_both None ys zs e = absurd (cc)

pub each_length : {A : Type 0} (reader : Reader A) (at : List Step) (i : ℕ) (js : List Json) (xs : List A) → (each reader at i js).value ≡ Some xs → length xs ≡ length js
unfolding each
each_length reader at i [] xs e = let h : xs ≡ [] = cc in ap length h
each_length reader at i (j ∷ js) xs e =
    let h = read_both (reader (item at i) j).value (each reader at (i + 1) js).value xs e in
    let k = each_length reader at (i + 1) js h.0 h.1 in
    omega (arith, h.2, k)

-- A list that is read whole: a limit, and the items.
abbrev limited : {A : Type 0} → Option (Unit {0}) → Option (List A) → Option (List A)
limited {A} limit ys = ◌>>=◌ {A = List A → List A} {B = List A} (◌>>=◌ {A = Unit {0}} {B = List A → List A} limit (λ _. Some (λ t. t))) (λ f. ◌>>=◌ {A = List A} {B = List A} ys (λ t. Some (f t)))

read_limited : {A : Type 0} (limit : Option (Unit {0})) (ys : Option (List A)) (xs : List A) → limited limit ys ≡ Some xs → ys ≡ Some xs
read_limited (Some x) (Some ys) xs e = e
read_limited (Some x) None xs e = absurd (cc)
read_limited None ys xs e = absurd (cc)

read_limit : {A : Type 0} (limit : Option (Unit {0})) (ys : Option (List A)) (xs : List A) → limited limit ys ≡ Some xs
    → limit ≡ Some tt
read_limit (Some x) ys xs e = refl
read_limit None ys xs e = absurd (cc)

not_above : (above : Bool) (at : List Step)
    → (let limit : Findings (Unit {0}) = if above then bad TooMany at else good tt in limit.value ≡ Some tt) → above ≡ false
not_above true at e = absurd (cc)
not_above false at e = refl

within_limit : (max : ℕ) (at : List Step) (js : List Json) → (at_most max at js).value ≡ Some tt → length js ≤ max
within_limit max at js e = ltb-false max (length js) (not_above (nat_lt max (length js)) at e)

pub list_length : {A : Type 0} (max : ℕ) (reader : Reader A) (at : List Step) (j : Json) (xs : List A) → (list max reader at j).value ≡ Some xs → length_of j ≡ Some (length xs)
unfolding list length_of
list_length {A} max reader at j xs =
    elim (out-Json j) as (λ v.
    (let read : Findings (List A) = elim v [ tree.Items js ↦ good (λ (_ : Unit {0}) (ys : List A). ys) ⊛ at_most max at js ⊛ each reader at 0 js | _ ↦ bad Kind at ] in read.value ≡ Some xs)
    → (let count : Option ℕ = elim v [ tree.Items js ↦ Some (length js) | _ ↦ None ] in count ≡ Some (length xs))) [
      | tree.Items js ↦ λ e. ap (λ (n : ℕ). Some n) (sym (each_length reader at 0 js xs (read_limited (at_most max at js).value (each reader at 0 js).value xs e)))
      | _ ↦ λ e. absurd (cc)
    ]

-- What is read of a list is within its limit.
pub list_few : {A : Type 0} (max : ℕ) (reader : Reader A) (at : List Step) (j : Json) (xs : List A)
    → (list max reader at j).value ≡ Some xs → length xs ≤ max
unfolding list
list_few {A} max reader at j xs =
    elim (out-Json j) as (λ v.
    (let read : Findings (List A) = elim v [ tree.Items js ↦ good (λ (_ : Unit {0}) (ys : List A). ys) ⊛ at_most max at js ⊛ each reader at 0 js | _ ↦ bad Kind at ] in read.value ≡ Some xs)
    → length xs ≤ max) [
      | tree.Items js ↦ λ e.
          let limit = (at_most max at js).value in let items = (each reader at 0 js).value in
          omega (arith, each_length reader at 0 js xs (read_limited limit items xs e), within_limit max at js (read_limit limit items xs e))
      | _ ↦ λ e. absurd (cc)
    ]

pub needed_few : {A : Type 0} (name : List ℕ) (max : ℕ) (reader : Reader A) (at : List Step) (m : Pairs) (xs : List A)
    → (needed name (list max reader) at m).value ≡ Some xs → length xs ≤ max
unfolding needed
needed_few {A} name max reader at m xs =
    elim (member name m) as (λ v.
    (let read : Findings (List A) = elim v [ None ↦ bad Missing (under at name) | Some j ↦ list max reader (under at name) j ] in read.value ≡ Some xs)
    → length xs ≤ max) [
      | None ↦ λ e. absurd (cc)
      | Some j ↦ λ e. list_few max reader (under at name) j xs e
    ]

-- The list of a member that is needed and read.
pub needed_count : {A : Type 0} (name : List ℕ) (max : ℕ) (reader : Reader A) (at : List Step) (m : Pairs) (xs : List A)
    → (needed name (list max reader) at m).value ≡ Some xs → count_in name m ≡ Some (length xs)
unfolding needed
needed_count {A} name max reader at m xs =
    elim (member name m) as (λ v.
    (let read : Findings (List A) = elim v [ None ↦ bad Missing (under at name) | Some j ↦ list max reader (under at name) j ] in read.value ≡ Some xs)
    → (v >>= length_of) ≡ Some (length xs)) [
      | None ↦ λ e. absurd (cc)
      | Some j ↦ λ e. list_length max reader (under at name) j xs e
    ]
