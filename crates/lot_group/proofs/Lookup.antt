-- The item at a place, index by index.
use Rattle.std.proofs.Common.{◌≡◌, ℕ, ◌+◌, ◌<◌, List, [], ◌∷◌, length, drop, get_or, Option, Some, None, refl, ap, sym, ◌∙◌, arith, inl, inr}
use Rattle.std.proofs.lemmas.List.{drop_more, drop_all}
use Rattle.std.proofs.lemmas.Option.{slice_get_cases, slice_get_read, slice_get_within}
use Rattle.lot_types.specs.declared.item.Item.{Item}
use Rattle.lot_group.specs.Place.{items_of, items_of_found, item_at}

item_at-nil : (place : List ℕ) → item_at [] place ≡ None
item_at-nil [] = refl
item_at-nil (k ∷ []) = refl
item_at-nil (k ∷ (l ∷ place)) = item_at-nil (l ∷ place)

pub lookup-some : (list : List Item) (place : List ℕ) (x : Item) → item_at list place ≡ Some x → 0 < length place
lookup-some list [] x e = absurd (cc)
lookup-some list (k ∷ place) x e = omega arith

first_within : (list : List Item) (k l : ℕ) (rest : List ℕ) (x : Item) →
    item_at list (k ∷ (l ∷ rest)) ≡ Some x → k < length list
first_within list k l rest x e =
    let found = slice_get_cases list k in
    elim found.1 [
      | inl h ↦ h.1
      | inr h ↦
          let n : None ≡ Some x =
          sym (ap (λ (z : Option Item). item_at (items_of_found z) (l ∷ rest)) h.1 ∙ item_at-nil (l ∷ rest)) ∙ e in
          absurd (cc)
    ]

two_more : (place : List ℕ) (i : ℕ) → i + 1 < length place →
    drop i place ≡ get_or place i 0 ∷ (get_or place (i + 1) 0 ∷ drop (i + 1 + 1) place)
two_more place i l =
    drop_more place i 0 (omega arith) ∙
    ap (λ (z : List ℕ). get_or place i 0 ∷ z) (drop_more place (i + 1) 0 l)

-- Before the last index: there is an item with a list.
pub lookup-within : (list : List Item) (place : List ℕ) (i : ℕ) (x : Item) → i + 1 < length place →
    item_at list (drop i place) ≡ Some x → get_or place i 0 < length list
lookup-within list place i x l e =
    first_within list (get_or place i 0) (get_or place (i + 1) 0) (drop (i + 1 + 1) place) x
    (sym (ap (item_at list) (two_more place i l)) ∙ e)

pub lookup-more : (list : List Item) (place : List ℕ) (i : ℕ) (y : Item) → i + 1 < length place →
    get_or place i 0 < length list → y ≡ get_or list (get_or place i 0) y →
    item_at (items_of y) (drop (i + 1) place) ≡ item_at list (drop i place)
lookup-more list place i y l w e =
    let rest = get_or place (i + 1) 0 ∷ drop (i + 1 + 1) place in
    ap (item_at (items_of y)) (drop_more place (i + 1) 0 l) ∙
    (sym (ap (λ (z : Option Item). item_at (items_of_found z) rest)
    (slice_get_read list (length list) (get_or place i 0) y refl w e)) ∙
    sym (ap (item_at list) (two_more place i l)))

-- At the last index.
one_more : (place : List ℕ) (i : ℕ) → i + 1 ≡ length place → drop i place ≡ get_or place i 0 ∷ []
one_more place i l =
    drop_more place i 0 (omega arith) ∙
    ap (λ (z : List ℕ). get_or place i 0 ∷ z) (drop_all (i + 1) place (omega arith))

pub lookup-last_within : (list : List Item) (place : List ℕ) (i : ℕ) (x : Item) → i + 1 ≡ length place →
    item_at list (drop i place) ≡ Some x → get_or place i 0 < length list
lookup-last_within list place i x l e =
    slice_get_within list (get_or place i 0) x (sym (ap (item_at list) (one_more place i l)) ∙ e)

pub lookup-last : (list : List Item) (place : List ℕ) (i : ℕ) (y : Item) → i + 1 ≡ length place →
    get_or place i 0 < length list → y ≡ get_or list (get_or place i 0) y → item_at list (drop i place) ≡ Some y
lookup-last list place i y l w e =
    ap (item_at list) (one_more place i l) ∙
    slice_get_read list (length list) (get_or place i 0) y refl w e
