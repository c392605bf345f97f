-- What holds of chains of links.
use Rattle.std.proofs.Common.{◌≡◌, ◌⊎◌, ◌↔◌, ℕ, zero, suc, ◌+◌, ◌-◌, ◌*◌, ◌<◌, ◌≤◌, Bool, true, false, List, [], ◌∷◌, map, length, get_or, refl, ap, sym, ◌∙◌, arith, Option, Some, None, eqb, eqb-true, eq-eqb}
use mathlib.Core.Logic.{inl, inr}
use Rattle.std.specs.List.{list_any, IsDistinct, AllByRecursion}
use Rattle.std.proofs.lemmas.Bool.{or_cases, or_parts, or_left, or_right, cases_Bool, cases_lt, true≢false}
use Rattle.std.proofs.lemmas.Option.{none-some, same_Some}
use Rattle.std.proofs.lemmas.List.{get_or_past}
use Rattle.std.proofs.lemmas.Map.Steps.{length-le_from_distinct_below}
use Rattle.lot_refs.specs.Links.{Links, next, after, trail, ancestors, comes_back, ComesBack, IsJump, leads_to}

-- ---- steps

pub after-none : (t : Links) (n : ℕ) → after t n None ≡ None
after-none t zero = refl
after-none t (suc n) = after-none t n

at_count : (t : Links) (o : Option ℕ) (m n : ℕ) → m ≡ n → after t m o ≡ after t n o
at_count t o m n e = ap (λ (k : ℕ). after t k o) e

pub after-add : (t : Links) (m n : ℕ) (o : Option ℕ) → after t (m + n) o ≡ after t n (after t m o)
after-add t zero n o = at_count t o (zero + n) n (omega arith)
after-add t (suc m) n o = at_count t o (suc m + n) (suc (m + n)) (omega arith) ∙ after-add t m n (next t o)

commute : (t : Links) (m n : ℕ) (o : Option ℕ) → after t m (after t n o) ≡ after t n (after t m o)
commute t m n o = sym (after-add t n m o) ∙ at_count t o (n + m) (m + n) (omega arith) ∙ after-add t m n o

-- What comes back after p steps comes back after any number of rounds.
around : (t : Links) (p l q : ℕ) → after t p (Some l) ≡ Some l → after t (q * p) (Some l) ≡ Some l
around t p l zero h = at_count t (Some l) (zero * p) zero (omega arith)
around t p l (suc q) h =
    at_count t (Some l) (suc q * p) (p + q * p) (omega arith)
    ∙ after-add t p (q * p) (Some l)
    ∙ ap (λ (o : Option ℕ). after t (q * p) o) h
    ∙ around t p l q h

-- A place from which a step leads on is within the list.
has_next : (t : Links) (q r l : ℕ) → after t (suc r) (Some q) ≡ Some l → q < length t
has_next t q r l h =
    elim (cases_lt q (length t)) [
      | inl less ↦ less
      | inr more ↦
          let past = ap (λ (o : Option ℕ). after t r o) (sym (get_or_past t q None more)) in
          absurd (none-some l (sym (after-none t r) ∙ past ∙ h))
    ]

-- ---- trails

pub trail_member : (t : Links) (n : ℕ) (o : Option ℕ) (q : ℕ) → list_any (eqb q) (trail t n o) ≡ true
    → (p : ℕ) × (p < n) × (after t p o ≡ Some q)
trail_member t zero o q h = absurd (cc)
trail_member t (suc n) None q h = absurd (cc)
trail_member t (suc n) (Some l) q h =
    elim (or_cases (eqb q l) (list_any (eqb q) (trail t n (next t (Some l)))) h) [
      | inl e ↦ (zero, omega arith, ap Some (sym (eqb-true q l e)))
      | inr e ↦ let m = trail_member t n (next t (Some l)) q e in (suc m.0, omega (arith, m.1), m.2)
    ]

pub trail_has : (t : Links) (n : ℕ) (o : Option ℕ) (q p : ℕ) → p < n → after t p o ≡ Some q
    → list_any (eqb q) (trail t n o) ≡ true
trail_has t zero o q p less h = absurd (omega (arith, less))
trail_has t (suc n) None q p less h = absurd (none-some q (sym (after-none t p) ∙ h))
trail_has t (suc n) (Some l) q zero less h = or_left (eqb q l) _ (eq-eqb q l (sym (same_Some l q h)))
trail_has t (suc n) (Some l) q (suc p) less h =
    or_right (eqb q l) _ (trail_has t n (next t (Some l)) q p (omega (arith, less)) h)

trail_length : (t : Links) (n m : ℕ) (o : Option ℕ) (l : ℕ) → n ≤ m → after t m o ≡ Some l → length (trail t n o) ≡ n
trail_length t zero m o l le h = refl
trail_length t (suc n) m None l le h = absurd (none-some l (sym (after-none t m) ∙ h))
trail_length t (suc n) zero (Some x) l le h = absurd (omega (arith, le))
trail_length t (suc n) (suc m) (Some x) l le h = ap suc (trail_length t n m (next t (Some x)) l (omega (arith, le)) h)

-- A place of the chain from o, within n places, that comes back within n steps.
record Returns (t : Links) (n : ℕ) (o : Option ℕ) : Type 0 where
  at : ℕ
  place : ℕ
  count : ℕ
  less : place + suc count < n
  leads : after t place o ≡ Some at
  back : after t (suc count) (Some at) ≡ Some at

none_there : (l : ℕ) (xs : List ℕ) → list_any (eqb l) xs ≡ false → AllByRecursion (λ y. eqb l y ≡ false) xs
none_there l [] h = tt
none_there l (x ∷ xs) h = let k = or_parts (eqb l x) (list_any (eqb l) xs) h in (k.0, none_there l xs k.1)

distinct_or_returns : (t : Links) (n : ℕ) (o : Option ℕ) → IsDistinct eqb (trail t n o) ⊎ Returns t n o
unfolding IsDistinct
distinct_or_returns t zero o = inl tt
distinct_or_returns t (suc n) None = inl tt
distinct_or_returns t (suc n) (Some l) =
    elim (cases_Bool (list_any (eqb l) (trail t n (next t (Some l))))) [
      | inl e ↦ let m = trail_member t n (next t (Some l)) l e in
          inr (record { at = l; place = zero; count = m.0; less = omega (arith, m.1); leads = refl; back = m.2 })
      | inr e ↦ elim (distinct_or_returns t n (next t (Some l))) [
        | inl d ↦ inl (none_there l (trail t n (next t (Some l))) e, d)
        | inr r ↦
            let le : suc r.place + suc r.count < suc n = omega (arith, r.less) in
            inr (record { at = r.at; place = suc r.place; count = r.count; less = le; leads = r.leads; back = r.back })
      ]
    ]

-- ---- circles

-- Where more steps than there are places lead, one comes back.
pub circle : (t : Links) (a l m : ℕ) → length t < m → after t m (Some a) ≡ Some l
    → (p : ℕ) × (p < length t) × (after t (suc p) (Some l) ≡ Some l)
circle t a l m more h =
    elim (distinct_or_returns t (suc (length t)) (Some a)) [
      | inl d ↦ absurd (
          let long : length (trail t (suc (length t)) (Some a)) ≡ suc (length t) =
          trail_length t (suc (length t)) m (Some a) l (omega (arith, more)) h in
          let short : length (trail t (suc (length t)) (Some a)) ≤ length t =
          length-le_from_distinct_below (trail t (suc (length t)) (Some a)) (length t) d (λ q e.
          let k = trail_member t (suc (length t)) (Some a) q e in
          has_next t q (m - suc k.0) l (
          ap (λ (o : Option ℕ). after t (suc (m - suc k.0)) o) (sym k.2)
          ∙ sym (after-add t k.0 (suc (m - suc k.0)) (Some a))
          ∙ at_count t (Some a) (k.0 + suc (m - suc k.0)) m (omega (arith, k.1, more))
          ∙ h)) in
          omega (arith, long, short))
      | inr r ↦ (
        r.count,
        omega (arith, r.less),
        let there : after t (m - r.place) (Some r.at) ≡ Some l =
            ap (λ (o : Option ℕ). after t (m - r.place) o) (sym r.leads)
            ∙ sym (after-add t r.place (m - r.place) (Some a))
            ∙ at_count t (Some a) (r.place + (m - r.place)) m (omega (arith, r.less, more))
            ∙ h in
            ap (λ (o : Option ℕ). after t (suc r.count) o) (sym there)
            ∙ commute t (suc r.count) (m - r.place) (Some r.at)
            ∙ ap (λ (o : Option ℕ). after t (m - r.place) o) r.back
            ∙ there,
      )
    ]

-- The law: a place is among its own ancestors exactly where some number of steps leads back to it.
pub comes_back-from : (t : Links) (l : ℕ) → ComesBack t l → comes_back t l ≡ true
comes_back-from t l b =
    elim (cases_lt b.0 (length t)) [
      | inl less ↦ trail_has t (length t) (next t (Some l)) l b.0 less b.1
      | inr more ↦ let k = circle t l l (suc b.0) (omega (arith, more)) b.1 in
          trail_has t (length t) (next t (Some l)) l k.0 k.1 k.2
    ]

pub comes_back-to : (t : Links) (l : ℕ) → comes_back t l ≡ true → ComesBack t l
comes_back-to t l h = let m = trail_member t (length t) (next t (Some l)) l h in (m.0, m.2)

-- ---- many steps at once

get_or_mapped : (f : Option ℕ → Option ℕ) → f None ≡ None → (xs : Links) (l : ℕ)
    → get_or (map f xs) l None ≡ f (get_or xs l None)
get_or_mapped f e [] l = sym e
get_or_mapped f e (x ∷ xs) zero = refl
get_or_mapped f e (x ∷ xs) (suc l) = get_or_mapped f e xs l

twice : (far : Links) (o : Option ℕ) → next (map (next far) far) o ≡ next far (next far o)
twice far None = refl
twice far (Some l) = get_or_mapped (next far) refl far l

pub jump_one : (t : Links) → IsJump t 1 t
jump_one t o = refl

pub jump_twice : (t far : Links) (n : ℕ) → IsJump t n far → IsJump t (n * 2) (map (next far) far)
jump_twice t far n h o =
    twice far o ∙ h (next far o) ∙ ap (λ (p : Option ℕ). after t n p) (h o)
    ∙ sym (after-add t n n o)
    ∙ at_count t o (n + n) (n * 2) (omega arith)

-- ---- which places come back

source : (l : ℕ) (far : Links) → list_any (leads_to l) far ≡ true → (a : ℕ) × (get_or far a None ≡ Some l)
source l [] h = absurd (cc)
source l (None ∷ far) h = let k = source l far h in (suc k.0, k.1)
source l (Some x ∷ far) h =
    elim (or_cases (eqb l x) (list_any (leads_to l) far) h) [
      | inl e ↦ (zero, ap Some (sym (eqb-true l x e)))
      | inr e ↦ let k = source l far e in (suc k.0, k.1)
    ]

is_source : (l a : ℕ) (far : Links) → get_or far a None ≡ Some l → list_any (leads_to l) far ≡ true
is_source l a [] h = absurd (none-some l h)
is_source l zero (x ∷ far) h = or_left (leads_to l x) _ (ap (leads_to l) h ∙ eq-eqb l l refl)
is_source l (suc a) (x ∷ far) h = or_right (leads_to l x) _ (is_source l a far h)

is_source_at : (t far : Links) (m l : ℕ) (o : Option ℕ) → IsJump t m far → after t m o ≡ Some l
    → list_any (leads_to l) far ≡ true
is_source_at t far m l None jump h = absurd (none-some l (sym (after-none t m) ∙ h))
is_source_at t far m l (Some a) jump h = is_source l a far (jump (Some a) ∙ h)

back_true : (t far : Links) (m l : ℕ) → IsJump t m far → ComesBack t l → list_any (leads_to l) far ≡ true
back_true t far m l jump b =
    is_source_at t far m l (after t (m * b.0) (Some l)) jump (
    sym (after-add t (m * b.0) m (Some l))
    ∙ at_count t (Some l) (m * b.0 + m) (m * suc b.0) (omega arith)
    ∙ around t (suc b.0) l m b.1)

true_back : (t far : Links) (m l : ℕ) → length t < m → IsJump t m far → list_any (leads_to l) far ≡ true → ComesBack t l
true_back t far m l more jump h =
    let a = source l far h in
    let k = circle t a.0 l m more (sym (jump (Some a.0)) ∙ a.1) in (k.0, k.2)

same_bools : (b c : Bool) → (b ≡ true → c ≡ true) → (c ≡ true → b ≡ true) → b ≡ c
same_bools true true f g = refl
same_bools true false f g = sym (f refl)
same_bools false true f g = g refl
same_bools false false f g = refl

-- Where more steps lead than there are places is exactly what comes back.
pub sources_come_back : (t far : Links) (m l : ℕ) → length t < m → IsJump t m far
    → list_any (leads_to l) far ≡ comes_back t l
sources_come_back t far m l more jump =
    same_bools _ _
    (λ h. comes_back-from t l (true_back t far m l more jump h))
    (λ h. back_true t far m l jump (comes_back-to t l h))

-- ---- no circle

abbrev pub NoCircle : Links → Type 0
NoCircle t = (l : ℕ) → comes_back t l ≡ false

ends_by : (t : Links) (a : ℕ) (o : Option ℕ) → NoCircle t → after t (suc (length t)) (Some a) ≡ o → o ≡ None
ends_by t a None free h = refl
ends_by t a (Some l) free h =
    let k = circle t a l (suc (length t)) (omega arith) h in
    absurd (true≢false (sym (comes_back-from t l (k.0, k.2)) ∙ free l))

-- Without circles each chain ends within as many steps as there are places.
pub ends : (t : Links) (o : Option ℕ) → NoCircle t → after t (suc (length t)) o ≡ None
ends t None free = after-none t (length t)
ends t (Some a) free = ends_by t a _ free refl

trail_whole : (t : Links) (n : ℕ) (o : Option ℕ) → after t n o ≡ None → trail t (suc n) o ≡ trail t n o
trail_whole t zero None h = refl
trail_whole t zero (Some l) h = absurd (none-some l (sym h))
trail_whole t (suc n) None h = refl
trail_whole t (suc n) (Some l) h = ap (λ (xs : List ℕ). l ∷ xs) (trail_whole t n (next t (Some l)) h)

-- The ancestors of a place are the next one and its ancestors.
pub ancestors_of_next : (t : Links) (l k : ℕ) → NoCircle t → next t (Some l) ≡ Some k
    → ancestors t l ≡ k ∷ ancestors t k
ancestors_of_next t l k free h =
    let n = length t in
    ap (λ (o : Option ℕ). trail t n o) h
    ∙ sym (trail_whole t n (Some k) (ap (λ (o : Option ℕ). after t n o) (sym h) ∙ ends t (Some l) free))

none_left : (t : Links) (n : ℕ) → trail t n None ≡ []
none_left t zero = refl
none_left t (suc n) = refl

pub ancestors_of_last : (t : Links) (l : ℕ) → next t (Some l) ≡ None → ancestors t l ≡ []
ancestors_of_last t l h = ap (λ (o : Option ℕ). trail t (length t) o) h ∙ none_left t (length t)

pub circles_law : (t : Links) (l : ℕ) → (comes_back t l ≡ true) ↔ ComesBack t l
circles_law t l = (comes_back-to t l, comes_back-from t l)
