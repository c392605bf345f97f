-- The places of the live styles lead to styles whose properties have values.
use Rattle.std.proofs.Common.{◌≡◌, ℕ, ℤ, ◌<◌, List, [], ◌∷◌, ◌++◌, map, length, Option, Some, zero, suc, refl, ap, sym, ◌∙◌, subst, append_assoc, true, arith, inl, inr}
use Rattle.std.proofs.lemmas.Bool.{cases_Bool}
use Rattle.std.proofs.lemmas.List.{append-nil}
use Rattle.std.proofs.lemmas.List.Elements.{All-head, All-tail}
use Rattle.std.specs.List.{All, slice_get}
use Rattle.lot_types.specs.declared.doc.Doc.{Doc}
use Rattle.lot_types.specs.declared.item.Item.{Item}
use Rattle.lot_types.specs.Items.{is_hidden, is_style, held, all_items, HasOwnValues, AreItemsOf}
use Rattle.lot_group.specs.Collected.{LeadsToStyle}
use Rattle.lot_group.specs.Live.{Entry, inside, within, live, styles}
use Rattle.lot_group.specs.Painting.{painting, paintings_of}
use Rattle.lot_group.specs.Place.{items_of, items_of_found, item_at}
use Rattle.lot_group.proofs.Filters.{Each, Each-append, Each-both, Each-filter, Each-mapped, Each-weaker, filter_passed}
use Rattle.lot_group.proofs.Items.{items-ind, inside-live, held-all, live-nil}
use Rattle.lot_group.proofs.Limits.{All-parts, OfAll}
use Rattle.lot_group.proofs.Live.{self_at, live-push, hidden_at, shown_at, live-below, live-nonempty}
use Rattle.lot_group.proofs.Places.{Below, NonEmpty}

-- A fact of each live item of a list with one more item at its end.
each_more : (Q : Entry → Type 0) (xs : List Item) (x : Item) → Each Q (live xs) → Q (self_at (length xs) x) →
    Each Q (map (within (length xs)) (live (items_of x))) → Each Q (live (xs ++ x ∷ []))
each_more Q xs x old own new =
    elim (cases_Bool (is_hidden x)) [
      | inl h ↦
          subst (Each Q)
          (sym (live-push xs x ∙ (ap (λ (z : List Entry). live xs ++ z) (hidden_at (length xs) x h) ∙
          append-nil (live xs)))) old
      | inr h ↦
          subst (Each Q)
          (sym (live-push xs x ∙ ap (λ (z : List Entry). live xs ++ z) (shown_at (length xs) x h)))
          (Each-append Q (live xs) (self_at (length xs) x ∷ map (within (length xs)) (inside x)) old
          (own, subst (λ (z : List Entry). Each Q (map (within (length xs)) z)) (sym (inside-live x)) new))
    ]

-- What holds of all items of a list holds of the live ones, and of all that they hold.
all_items-more : (xs : List Item) (x : Item) → all_items (xs ++ x ∷ []) ≡ all_items xs ++ (x ∷ held x)
unfolding all_items
all_items-more [] x = append-nil (x ∷ held x)
all_items-more (y ∷ xs) x =
    ap (λ (z : List Item). y ∷ (held y ++ z)) (all_items-more xs x) ∙
    ap (λ (z : List Item). y ∷ z) (sym (append_assoc (held y) (all_items xs) (x ∷ held x)))

pub live-of_all : (P : Item → Type 0) (xs : List Item) → All P (all_items xs) → Each (λ e. OfAll P e.item) (live xs)
live-of_all P =
    items-ind (λ xs. All P (all_items xs) → Each (λ e. OfAll P e.item) (live xs))
    (λ h. subst (Each (λ e. OfAll P e.item)) (sym live-nil) tt)
    (λ xs x q r h.
    let parts = All-parts P (all_items xs) (x ∷ held x) (subst (All P) (all_items-more xs x) h) in
    let within_x = subst (All P) (held-all x) (All-tail P x (held x) parts.1) in
    each_more (λ e. OfAll P e.item) xs x (r parts.0) (All-head P x (held x) parts.1, within_x)
    (Each-mapped (λ e. OfAll P e.item) (λ e. OfAll P e.item) (within (length xs)) (λ e p. p) (live (items_of x))
    (q within_x)))

pub live-all : (P : Item → Type 0) (xs : List Item) → All P (all_items xs) → Each (λ e. P e.item) (live xs)
live-all P xs h = Each-weaker (λ e. OfAll P e.item) (λ e. P e.item) (λ e p. p.0) (live xs) (live-of_all P xs h)

-- The place of a live item leads to it.
slice_get-before : {X : Type 0} (xs ys : List X) (k : ℕ) → k < length xs → slice_get (xs ++ ys) k ≡ slice_get xs k
slice_get-before [] ys k l = absurd (omega arith)
slice_get-before (x ∷ xs) ys zero l = refl
slice_get-before (x ∷ xs) ys (suc k) l = slice_get-before xs ys k (omega arith)

slice_get-last : {X : Type 0} (xs : List X) (x : X) → slice_get (xs ++ x ∷ []) (length xs) ≡ Some x
slice_get-last [] x = refl
slice_get-last (y ∷ xs) x = slice_get-last xs x

item_at-before : (xs ys : List Item) (place : List ℕ) → Below (length xs) place →
    item_at (xs ++ ys) place ≡ item_at xs place
item_at-before xs ys [] b = refl
item_at-before xs ys (k ∷ []) b = slice_get-before xs ys k b
item_at-before xs ys (k ∷ (l ∷ rest)) b =
    ap (λ (z : Option Item). item_at (items_of_found z) (l ∷ rest)) (slice_get-before xs ys k b)

item_at-within : (xs : List Item) (x : Item) (place : List ℕ) → NonEmpty place →
    item_at (xs ++ x ∷ []) (length xs ∷ place) ≡ item_at (items_of x) place
item_at-within xs x [] t = absurd t
item_at-within xs x (l ∷ rest) t =
    ap (λ (z : Option Item). item_at (items_of_found z) (l ∷ rest)) (slice_get-last xs x)

abbrev Leads : List Item → Entry → Type 0
Leads xs e = item_at xs e.place ≡ Some e.item

live-leads : (xs : List Item) → Each (Leads xs) (live xs)
live-leads =
    items-ind (λ xs. Each (Leads xs) (live xs))
    (subst (Each (Leads [])) (sym live-nil) tt)
    (λ xs x q r.
    let here = xs ++ x ∷ [] in
    each_more (Leads here) xs x
    (Each-both (λ e. Below (length xs) e.place) (Leads xs) (Leads here)
    (λ e b l. item_at-before xs (x ∷ []) e.place b ∙ l) (live xs) (live-below xs) r)
    (slice_get-last xs x)
    (Each-mapped (Leads here) (λ e. NonEmpty e.place × Leads (items_of x) e) (within (length xs))
    (λ e h. item_at-within xs x e.place h.0 ∙ h.1) (live (items_of x))
    (Each-both (λ e. NonEmpty e.place) (Leads (items_of x)) (λ e. NonEmpty e.place × Leads (items_of x) e)
    (λ e t l. (t, l)) (live (items_of x)) (live-nonempty (items_of x)) q)))

abbrev Values : Doc → Entry → Type 0
Values d e = HasOwnValues d e.item

styles-lead : (d : Doc) (xs : List Item) → AreItemsOf d xs →
    Each (λ s. LeadsToStyle d xs s.place) (styles (live xs))
styles-lead d xs h =
    let all = live xs in
    let values = live-all (HasOwnValues d) xs h.values in
    let found = Each-both (Leads xs) (Values d) (λ e. Leads xs e × Values d e) (λ e l v. (l, v)) all
    (live-leads xs) values in
    Each-both (λ s. is_style s.item ≡ true) (λ e. Leads xs e × Values d e) (λ s. LeadsToStyle d xs s.place)
    (λ s k f. record { style = s.item; at = f.0; kind = k; values = f.1 }) (styles all)
    (filter_passed (λ e. is_style e.item) all)
    (Each-filter (λ e. Leads xs e × Values d e) (λ e. is_style e.item) all found)

pub paintings-lead : (d : Doc) (u : ℤ) (xs : List Item) → AreItemsOf d xs →
    Each (λ p. LeadsToStyle d xs p.place) (paintings_of d u xs)
unfolding paintings_of painting
paintings-lead d u xs h =
    Each-mapped (λ p. LeadsToStyle d xs p.place) (λ s. LeadsToStyle d xs s.place) (painting d u (live xs))
    (λ s l. l) (styles (live xs)) (styles-lead d xs h)
