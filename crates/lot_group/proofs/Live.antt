-- The live items of a list with one more item at its end.
use Rattle.std.proofs.Common.{◌≡◌, ℕ, ◌+◌, ◌<◌, ◌≤◌, List, [], ◌∷◌, ◌++◌, map, length, refl, ap, sym, ◌∙◌, Bool, true, false, arith, append_assoc}
use Rattle.std.proofs.lemmas.List.{append-nil, map-append, length-map}
use Rattle.std.specs.Prelude.{cond}
use Rattle.lot_types.specs.declared.item.Item.{Item}
use Rattle.lot_types.specs.Items.{is_hidden}
use Rattle.lot_group.specs.Live.{Entry, inside, with_inside, within, entries_at, entries_from, live}
use Rattle.lot_group.proofs.Filters.{Each, Each-append, Each-map, Each-weaker}
use Rattle.lot_group.proofs.Places.{Below, At, NonEmpty}

-- The item itself, as the n-th of its list.
abbrev pub self_at : ℕ → Item → Entry
self_at n x = record { place = n ∷ []; item = x }

entries_from-append : (k : ℕ) (ys zs : List (Item × List Entry)) →
    entries_from k (ys ++ zs) ≡ entries_from k ys ++ entries_from (k + length ys) zs
entries_from-append k [] zs = ap (λ (z : ℕ). entries_from z zs) (omega arith)
entries_from-append k (y ∷ ys) zs =
    let e : k + 1 + length ys ≡ k + length (y ∷ ys) = omega arith in
    ap (λ (z : List Entry). entries_at k y ++ z) (entries_from-append (k + 1) ys zs) ∙
    (sym (append_assoc (entries_at k y) (entries_from (k + 1) ys) (entries_from (k + 1 + length ys) zs)) ∙
    ap (λ (z : ℕ). entries_from k (y ∷ ys) ++ entries_from z zs) e)

pub live-push : (xs : List Item) (x : Item) → live (xs ++ x ∷ []) ≡ live xs ++ entries_at (length xs) (with_inside x)
unfolding live
live-push xs x =
    let e : 0 + length (map with_inside xs) ≡ length xs = omega (arith, length-map xs with_inside) in
    ap (entries_from 0) (map-append with_inside xs (x ∷ [])) ∙
    (entries_from-append 0 (map with_inside xs) (with_inside x ∷ []) ∙
    (ap (λ (z : ℕ). live xs ++ (entries_at z (with_inside x) ++ [])) e ∙
    ap (λ (z : List Entry). live xs ++ z) (append-nil (entries_at (length xs) (with_inside x)))))

pub hidden_at : (n : ℕ) (x : Item) → is_hidden x ≡ true → entries_at n (with_inside x) ≡ []
hidden_at n x h = ap (λ (b : Bool). cond b [] (self_at n x ∷ map (within n) (inside x))) h

pub shown_at : (n : ℕ) (x : Item) → is_hidden x ≡ false →
    entries_at n (with_inside x) ≡ self_at n x ∷ map (within n) (inside x)
shown_at n x h = ap (λ (b : Bool). cond b [] (self_at n x ∷ map (within n) (inside x))) h

pub entries_at-at : (n : ℕ) (x : Item × List Entry) → Each (λ e. At n e.place) (entries_at n x)
entries_at-at n x =
    elim (is_hidden x.0) as (λ b. Each (λ e. At n e.place) (cond b [] (self_at n x.0 ∷ map (within n) x.1))) [
      | true ↦ tt
      | false ↦ (refl, Each-map (λ e. At n e.place) (within n) (λ e. refl) x.1)
    ]

below_from_at : (k n : ℕ) → k < n → (p : List ℕ) → At k p → Below n p
below_from_at k n l [] a = a
below_from_at k n l (i ∷ p) a = omega arith

pub nonempty_from_below : (n : ℕ) (p : List ℕ) → Below n p → NonEmpty p
nonempty_from_below n [] b = b
nonempty_from_below n (i ∷ p) b = tt

entries_from-below : (k n : ℕ) (ys : List (Item × List Entry)) → k + length ys ≤ n →
    Each (λ e. Below n e.place) (entries_from k ys)
entries_from-below k n [] h = tt
entries_from-below k n (y ∷ ys) h =
    Each-append (λ e. Below n e.place) (entries_at k y) (entries_from (k + 1) ys)
    (Each-weaker (λ e. At k e.place) (λ e. Below n e.place) (λ e. below_from_at k n (omega arith) e.place)
    (entries_at k y) (entries_at-at k y))
    (entries_from-below (k + 1) n ys (omega arith))

pub live-below : (xs : List Item) → Each (λ e. Below (length xs) e.place) (live xs)
unfolding live
live-below xs = entries_from-below 0 (length xs) (map with_inside xs) (omega (arith, length-map xs with_inside))

pub live-nonempty : (xs : List Item) → Each (λ e. NonEmpty e.place) (live xs)
live-nonempty xs =
    Each-weaker (λ e. Below (length xs) e.place) (λ e. NonEmpty e.place)
    (λ e. nonempty_from_below (length xs) e.place) (live xs) (live-below xs)
