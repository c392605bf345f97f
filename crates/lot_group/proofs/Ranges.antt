-- The leaves that a style paints form one range.
use Rattle.std.proofs.Common.{◌≡◌, ℕ, ℤ, ◌+◌, ◌≤◌, List, [], ◌∷◌, ◌++◌, map, length, refl, ap, sym, ◌∙◌, subst, Bool, false, append_assoc, inl, inr, arith}
use Rattle.std.proofs.lemmas.List.{append-nil, map-append, length-append, length-map}
use Rattle.std.proofs.lemmas.List.Elements.{filter-append}
use Rattle.std.proofs.lemmas.Bool.{cases_Bool}
use Rattle.std.specs.Prelude.{cond}
use Rattle.std.specs.List.{All}
use Rattle.lot_types.specs.declared.doc.Doc.{Doc}
use Rattle.lot_types.specs.declared.item.Item.{Item}
use Rattle.lot_types.specs.Items.{ItemKind, leaf, group, style, trim, transform, kind_of, is_hidden, is_leaf, is_style}
use Rattle.lot_group.specs.Live.{Entry, inside, with_inside, within, entries_at, live, leaves, styles, painted_leaves, earlier_leaves, groups_between}
use Rattle.lot_group.specs.Outlines.{outlines_of}
use Rattle.lot_group.specs.Painting.{Painting, painting, paintings_of, product_of}
use Rattle.lot_group.specs.Place.{items_of}
use Rattle.lot_group.specs.Range.{IsRange}
use Rattle.lot_group.proofs.Filters.{Each, Each-append, Each-filter, Each-from, Each-both, Each-mapped, filter_map, all-from}
use Rattle.lot_group.proofs.Places.{Below, At, NonEmpty}
use Rattle.lot_group.proofs.Live.{self_at, live-push, hidden_at, shown_at, entries_at-at, live-below, live-nonempty}
use Rattle.lot_group.proofs.Paints.{painted_leaves-old, earlier_leaves-old, painted_leaves-own, earlier_leaves-own, leaves-self, leaves-within, painted_leaves-within, earlier_leaves-within}
use Rattle.lot_group.proofs.Adds.{alone}
use Rattle.lot_group.proofs.Items.{live-ind, inside-live, inside-other, leaf_is, style_is, group_is}
use Rattle.lot_group.proofs.Trims.{outlines-length}

-- What an item holds has places that are not empty.
inside-nonempty : (x : Item) → Each (λ e. NonEmpty e.place) (inside x)
inside-nonempty x =
    subst (Each (λ e. NonEmpty e.place)) (sym (inside-live x)) (live-nonempty (items_of x))

abbrev pub Ranged : List Entry → Type 0
Ranged all = Each (IsRange all) (styles all)

range-old : (n : ℕ) (all new : List Entry) (s : Entry) → Each (λ e. At n e.place) new → Below n s.place →
    IsRange all s → IsRange (all ++ new) s
range-old n all new s a b r = record {
  later = r.later ++ leaves new;
  split =
      filter-append (λ e. is_leaf e.item) all new ∙
      (ap (λ (z : List Entry). z ++ leaves new) r.split ∙
      (append_assoc (earlier_leaves all s) (painted_leaves all s ++ r.later) (leaves new) ∙
      (ap (λ (z : List Entry). earlier_leaves all s ++ z) (append_assoc (painted_leaves all s) r.later (leaves new)) ∙
      (λ i. sym (earlier_leaves-old n all new s b a)
      i ++ (sym (painted_leaves-old n all new s b a) i ++ (r.later ++ leaves new))))));
}

range-own : (n : ℕ) (all : List Entry) (x : Item) → is_leaf x ≡ false → Each (λ e. Below n e.place) all →
    IsRange (all ++ self_at n x ∷ []) (self_at n x)
range-own n all x h b = record {
  later = [];
  split =
      leaves-self n all x h ∙
      (sym (append-nil (leaves all)) ∙
      (λ i. sym (earlier_leaves-own n (all ++ self_at n x ∷ []) x)
      i ++ (sym (painted_leaves-own n all x h b) i ++ [])));
}

range-within : (n : ℕ) (all sub : List Entry) (g : Item) (s : Entry) → is_leaf g ≡ false → NonEmpty s.place →
    Each (λ e. Below n e.place) all → IsRange sub s →
    IsRange (all ++ self_at n g ∷ map (within n) sub) (within n s)
range-within n all sub g s h t b r = record {
  later = map (within n) r.later;
  split =
      let w = map (within n) in
      leaves-within n all sub g h ∙
      (ap (λ (z : List Entry). leaves all ++ w z) r.split ∙
      (ap (λ (z : List Entry). leaves all ++ z) (map-append (within n) (earlier_leaves sub s)
      (painted_leaves sub s ++ r.later) ∙ ap (λ (z : List Entry). w (earlier_leaves sub s) ++ z)
      (map-append (within n) (painted_leaves sub s) r.later)) ∙
      (sym (append_assoc (leaves all) (w (earlier_leaves sub s)) (w (painted_leaves sub s) ++ w r.later)) ∙
      (λ i. sym (earlier_leaves-within n all sub g s h t b)
      i ++ (sym (painted_leaves-within n all sub g s h t b) i ++ w r.later)))));
}

-- The styles of the list stay in their ranges, so only the new ones are to be shown.
ranged-new : (xs : List Item) (x : Item) (new : List Entry) → entries_at (length xs) (with_inside x) ≡ new →
    Ranged (live xs) →
    Each (IsRange (live xs ++ new)) (styles new) → Ranged (live (xs ++ x ∷ []))
ranged-new xs x new e r h =
    let a : Each (λ e. At (length xs) e.place) new =
    subst (λ (z : List Entry). Each (λ e. At (length xs) e.place) z) e (entries_at-at (length xs) (with_inside x)) in
    let old = Each-both (λ s. Below (length xs) s.place) (IsRange (live xs)) (IsRange (live xs ++ new))
    (λ s b q. range-old (length xs) (live xs) new s a b q) (styles (live xs))
    (Each-filter (λ e. Below (length xs) e.place) (λ e. is_style e.item) (live xs) (live-below xs)) r in
    subst Ranged (sym (live-push xs x ∙ ap (λ (z : List Entry). live xs ++ z) e))
    (subst (Each (IsRange (live xs ++ new))) (sym (filter-append (λ e. is_style e.item) (live xs) new))
    (Each-append (IsRange (live xs ++ new)) (styles (live xs)) (styles new) old h))

-- An item that is no style and holds nothing.
ranged-plain : (xs : List Item) (x : Item) → is_hidden x ≡ false → is_style x ≡ false → inside x ≡ [] →
    Ranged (live xs) → Ranged (live (xs ++ x ∷ []))
ranged-plain xs x v h e r =
    let all = live xs ++ self_at (length xs) x ∷ [] in
    let s : styles (self_at (length xs) x ∷ []) ≡ [] = ap (λ (b : Bool). cond b (self_at (length xs) x ∷ []) []) h in
    ranged-new xs x (self_at (length xs) x ∷ []) (alone (length xs) x v e) r (subst (Each (IsRange all)) (sym s) tt)

ranged-style : (xs : List Item) (x : Item) → kind_of x ≡ style → is_hidden x ≡ false → Ranged (live xs) →
    Ranged (live (xs ++ x ∷ []))
ranged-style xs x k v r =
    let all = live xs ++ self_at (length xs) x ∷ [] in
    let s : styles (self_at (length xs) x ∷ []) ≡ self_at (length xs) x ∷ [] =
    ap (λ (b : Bool). cond b (self_at (length xs) x ∷ []) []) (style_is x style k) in
    ranged-new xs x (self_at (length xs) x ∷ []) (alone (length xs) x v (inside-other x (group_is x style k))) r
    (subst (Each (IsRange all)) (sym s) (range-own (length xs) (live xs) x (leaf_is x style k) (live-below xs), tt))

-- What a group holds, as what it would be of a list of its own.
ranged-group : (xs : List Item) (x : Item) → kind_of x ≡ group → is_hidden x ≡ false →
    Each (λ e. NonEmpty e.place) (inside x) → Ranged (inside x) → Ranged (live xs) → Ranged (live (xs ++ x ∷ []))
ranged-group xs x k v t q r =
    let n = length xs in
    let new = self_at n x ∷ map (within n) (inside x) in
    let s : styles new ≡ map (within n) (styles (inside x)) =
    ap (λ (b : Bool). cond b (self_at n x ∷ styles (map (within n) (inside x))) (styles (map (within n) (inside x))))
    (style_is x group k) ∙
    filter_map (within n) (λ e. is_style e.item) (λ e. is_style e.item) (inside x)
    (Each-from (λ e. is_style e.item ≡ is_style e.item) (λ e. refl) (inside x)) in
    ranged-new xs x new (shown_at n x v) r
    (subst (Each (IsRange (live xs ++ new))) (sym s)
    (Each-mapped (IsRange (live xs ++ new)) (λ e. NonEmpty e.place × IsRange (inside x) e) (within n)
    (λ e c. range-within n (live xs) (inside x) x e (leaf_is x group k) c.0 (live-below xs) c.1) (styles (inside x))
    (Each-both (λ e. NonEmpty e.place) (IsRange (inside x)) (λ e. NonEmpty e.place × IsRange (inside x) e)
    (λ e a b. (a, b)) (styles (inside x))
    (Each-filter (λ e. NonEmpty e.place) (λ e. is_style e.item) (inside x) t) q)))

ranged-shown : (xs : List Item) (x : Item) (y : ItemKind) → kind_of x ≡ y → is_hidden x ≡ false →
    Each (λ e. NonEmpty e.place) (inside x) → Ranged (inside x) → Ranged (live xs) → Ranged (live (xs ++ x ∷ []))
ranged-shown xs x leaf k v t q r = ranged-plain xs x v (style_is x leaf k) (inside-other x (group_is x leaf k)) r
ranged-shown xs x group k v t q r = ranged-group xs x k v t q r
ranged-shown xs x style k v t q r = ranged-style xs x k v r
ranged-shown xs x trim k v t q r = ranged-plain xs x v (style_is x trim k) (inside-other x (group_is x trim k)) r
ranged-shown xs x transform k v t q r =
    ranged-plain xs x v (style_is x transform k) (inside-other x (group_is x transform k)) r

ranged-push : (xs : List Item) (x : Item) → Each (λ e. NonEmpty e.place) (inside x) → Ranged (inside x) →
    Ranged (live xs) → Ranged (live (xs ++ x ∷ []))
ranged-push xs x t q r =
    elim (cases_Bool (is_hidden x)) [
      | inl h ↦ ranged-new xs x [] (hidden_at (length xs) x h) r tt
      | inr h ↦ ranged-shown xs x (kind_of x) refl h t q r
    ]

-- In each list of items each style paints one range of the leaves.
pub ranged : (xs : List Item) → Ranged (live xs)
ranged = live-ind Ranged tt (λ xs x. ranged-push xs x (inside-nonempty x))

pub all-ranged : (xs : List Item) → All (IsRange (live xs)) (styles (live xs))
all-ranged xs = all-from (IsRange (live xs)) (styles (live xs)) (ranged xs)

-- The range of a painting is one of n leaves, and has a map for each of its leaves.
pub record IsUsable (n : ℕ) (p : Painting) : Type 0 where
  pub ordered : p.from ≤ p.to
  pub inside : p.to ≤ n
  pub mapped : p.from + length p.maps ≡ p.to

usable-one : (d : Doc) (u : ℤ) (all : List Entry) (s : Entry) → IsRange all s →
    IsUsable (length (leaves all)) (painting d u all s)
unfolding painting
usable-one d u all s r =
    let n : length (leaves all) ≡
    length (earlier_leaves all s) + (length (painted_leaves all s) + length r.later) =
    ap length r.split ∙ (length-append (earlier_leaves all s) (painted_leaves all s ++ r.later) ∙
    ap (λ (z : ℕ). length (earlier_leaves all s) + z) (length-append (painted_leaves all s) r.later)) in
    record {
      ordered = omega arith;
      inside = omega (arith, n);
      mapped =
          ap (λ (z : ℕ). length (earlier_leaves all s) + z)
          (length-map (painted_leaves all s) (λ q. product_of d u (groups_between all s q)));
    }

pub usable : (d : Doc) (u : ℤ) (xs : List Item) → Each (IsUsable (length (outlines_of d u xs))) (paintings_of d u xs)
unfolding paintings_of
usable d u xs =
    Each-mapped (IsUsable (length (outlines_of d u xs))) (IsRange (live xs)) (painting d u (live xs))
    (λ s r. subst (λ (z : ℕ). IsUsable z (painting d u (live xs) s)) (sym (outlines-length d u xs))
    (usable-one d u (live xs) s r)) (styles (live xs)) (ranged xs)
