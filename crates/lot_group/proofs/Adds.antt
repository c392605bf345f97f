-- What one more item adds to what is collected of a list.
use Rattle.std.proofs.Common.{◌≡◌, ℕ, ℤ, List, [], ◌∷◌, ◌++◌, map, length, Option, Some, refl, ap, sym, ◌∙◌, subst, Bool, true, false}
use Rattle.std.proofs.lemmas.List.{append-nil, map-append, length-map}
use Rattle.std.proofs.lemmas.List.Elements.{filter-append}
use Rattle.std.specs.Prelude.{cond}
use Rattle.lot_geom.specs.Matrix.{identity}
use Rattle.lot_types.specs.declared.doc.Doc.{Doc}
use Rattle.lot_types.specs.declared.item.Item.{Item}
use Rattle.lot_types.specs.declared.matrix.Matrix.{Matrix}
use Rattle.lot_types.specs.declared.outline.Outline.{Outline}
use Rattle.lot_types.specs.Items.{group, leaf, style, trim, transform, kind_of, is_hidden, is_leaf, is_style}
use Rattle.lot_group.specs.Group.{group_matrix, group_opacity}
use Rattle.lot_group.specs.Live.{Entry, is_trim, inside, with_inside, within, entries_at, live, leaves, styles, trims, holders}
use Rattle.lot_group.specs.Outlines.{own_outline, trimmed, after_trim, after_trims, outlines_of}
use Rattle.lot_group.specs.Painting.{Painting, painting, paintings_of, product_of}
use Rattle.lot_group.specs.Pass.{maps_of}
use Rattle.lot_group.specs.Place.{items_of}
use Rattle.lot_group.specs.Product.{then_both}
use Rattle.lot_group.proofs.Filters.{Each, Each-filter, Each-weaker, Each-from, filter_map, map_same, map-map}
use Rattle.lot_group.proofs.Places.{Below, At, NonEmpty}
use Rattle.lot_group.proofs.Live.{self_at, live-push, hidden_at, shown_at, entries_at-at, live-below, live-nonempty}
use Rattle.lot_group.proofs.Paints.{painting-old, painting-own, own_painting, painting-within, lifted, product-around}
use Rattle.lot_group.proofs.Holders.{holders-old, holders-own, holders-within}
use Rattle.lot_group.proofs.Items.{leaf_is, style_is, trim_is, group_is, inside-live, inside-other}
use Rattle.lot_group.proofs.Trims.{trims-old, trims-within, after-own, after_trims-append, outlines-length}

pub record Adds (d : Doc) (u : ℤ) (xs : List Item) (x : Item) (os : List (Option Outline)) (ms : List (Option Matrix))
    (ps : List Painting) : Type 0 where
  pub outlines : outlines_of d u (xs ++ x ∷ []) ≡ os
  pub maps : maps_of d u (xs ++ x ∷ []) ≡ maps_of d u xs ++ ms
  pub paintings : paintings_of d u (xs ++ x ∷ []) ≡ paintings_of d u xs ++ ps

abbrev drawn : Doc → ℤ → Entry → Option Outline
drawn d u q = own_outline d u q.item

abbrev whole : Doc → ℤ → List Entry → Entry → Option Matrix
whole d u all q = product_of d u (holders all q)

leaves-new : (xs : List Item) (x : Item) (new : List Entry) → entries_at (length xs) (with_inside x) ≡ new →
    leaves (live (xs ++ x ∷ [])) ≡ leaves (live xs) ++ leaves new
leaves-new xs x new e =
    ap leaves (live-push xs x) ∙
    (ap (λ (z : List Entry). leaves (live xs ++ z)) e ∙ filter-append (λ e. is_leaf e.item) (live xs) new)

trims-new : (xs : List Item) (x : Item) (new : List Entry) → entries_at (length xs) (with_inside x) ≡ new →
    trims (live (xs ++ x ∷ [])) ≡ trims (live xs) ++ trims new
trims-new xs x new e =
    ap trims (live-push xs x) ∙
    (ap (λ (z : List Entry). trims (live xs ++ z)) e ∙ filter-append (λ e. is_trim e.item) (live xs) new)

at-new : (xs : List Item) (x : Item) (new : List Entry) → entries_at (length xs) (with_inside x) ≡ new →
    Each (λ e. At (length xs) e.place) new
at-new xs x new e = subst (λ (z : List Entry). Each (λ e. At (length xs) e.place) z) e
    (entries_at-at (length xs) (with_inside x))

-- First the trims of the list as before, and then the new ones.
outlines-new : (d : Doc) (u : ℤ) (xs : List Item) (x : Item) (new : List Entry) →
    entries_at (length xs) (with_inside x) ≡ new →
    outlines_of d u (xs ++ x ∷ []) ≡ after_trims d u (leaves (live xs) ++ leaves new)
    (outlines_of d u xs ++ map (drawn d u) (leaves new)) (trims new)
unfolding outlines_of
outlines-new d u xs x new e =
    let qs = leaves (live xs) in
    (λ i. after_trims d u (leaves-new xs x new e i) (map (drawn d u) (leaves-new xs x new e i))
    (trims-new xs x new e i)) ∙
    (ap (λ (z : List (Option Outline)). after_trims d u (qs ++ leaves new) z (trims (live xs) ++ trims new))
    (map-append (drawn d u) qs (leaves new)) ∙
    (after_trims-append d u (qs ++ leaves new) (map (drawn d u) qs ++ map (drawn d u) (leaves new)) (trims (live xs))
    (trims new) ∙
    ap (λ (z : List (Option Outline)). after_trims d u (qs ++ leaves new) z (trims new))
    (trims-old d u (length xs) qs (leaves new) (map (drawn d u) qs) (map (drawn d u) (leaves new)) (trims (live xs))
    (length-map qs (drawn d u))
    (Each-filter (λ e. Below (length xs) e.place) (λ e. is_trim e.item) (live xs) (live-below xs))
    (Each-filter (λ e. At (length xs) e.place) (λ e. is_leaf e.item) new (at-new xs x new e)))))

maps-new : (d : Doc) (u : ℤ) (xs : List Item) (x : Item) (new : List Entry) →
    entries_at (length xs) (with_inside x) ≡ new →
    maps_of d u (xs ++ x ∷ []) ≡ maps_of d u xs ++ map (whole d u (live xs ++ new)) (leaves new)
unfolding maps_of
maps-new d u xs x new e =
    (λ i. map (whole d u ((live-push xs x ∙ ap (λ (z : List Entry). live xs ++ z) e) i)) (leaves-new xs x new e i)) ∙
    (map-append (whole d u (live xs ++ new)) (leaves (live xs)) (leaves new) ∙
    ap (λ (z : List (Option Matrix)). z ++ map (whole d u (live xs ++ new)) (leaves new))
    (map_same (whole d u (live xs ++ new)) (whole d u (live xs)) (leaves (live xs))
    (Each-weaker (λ e. Below (length xs) e.place) (λ q. whole d u (live xs ++ new) q ≡ whole d u (live xs) q)
    (λ q b. ap (product_of d u) (holders-old (length xs) (live xs) new q b (at-new xs x new e))) (leaves (live xs))
    (Each-filter (λ e. Below (length xs) e.place) (λ e. is_leaf e.item) (live xs) (live-below xs)))))

paintings-new : (d : Doc) (u : ℤ) (xs : List Item) (x : Item) (new : List Entry) →
    entries_at (length xs) (with_inside x) ≡ new →
    paintings_of d u (xs ++ x ∷ []) ≡ paintings_of d u xs ++ map (painting d u (live xs ++ new)) (styles new)
unfolding paintings_of
paintings-new d u xs x new e =
    let a : Each (λ e. At (length xs) e.place) new =
    subst (λ (z : List Entry). Each (λ e. At (length xs) e.place) z) e (entries_at-at (length xs) (with_inside x)) in
    ap (λ (z : List Entry). map (painting d u z) (styles z)) (live-push xs x) ∙
    (ap (λ (z : List Entry). map (painting d u (live xs ++ z)) (styles (live xs ++ z))) e ∙
    (ap (map (painting d u (live xs ++ new))) (filter-append (λ e. is_style e.item) (live xs) new) ∙
    (map-append (painting d u (live xs ++ new)) (styles (live xs)) (styles new) ∙
    ap (λ (z : List Painting). z ++ map (painting d u (live xs ++ new)) (styles new))
    (map_same (painting d u (live xs ++ new)) (painting d u (live xs)) (styles (live xs))
    (Each-weaker (λ e. Below (length xs) e.place) (λ s. painting d u (live xs ++ new) s ≡ painting d u (live xs) s)
    (λ s b. painting-old d u (length xs) (live xs) new s b (live-below xs) a) (styles (live xs))
    (Each-filter (λ e. Below (length xs) e.place) (λ e. is_style e.item) (live xs) (live-below xs)))))))

adds : (d : Doc) (u : ℤ) (xs : List Item) (x : Item) (new : List Entry) (os : List (Option Outline))
    (ms : List (Option Matrix)) (ps : List Painting) → entries_at (length xs) (with_inside x) ≡ new →
    after_trims d u (leaves (live xs) ++ leaves new) (outlines_of d u xs ++ map (drawn d u) (leaves new))
    (trims new) ≡ os → map (whole d u (live xs ++ new)) (leaves new) ≡ ms →
    map (painting d u (live xs ++ new)) (styles new) ≡ ps → Adds d u xs x os ms ps
adds d u xs x new os ms ps e o m p = record {
  outlines = outlines-new d u xs x new e ∙ o;
  maps = maps-new d u xs x new e ∙ ap (λ (z : List (Option Matrix)). maps_of d u xs ++ z) m;
  paintings = paintings-new d u xs x new e ∙ ap (λ (z : List Painting). paintings_of d u xs ++ z) p;
}

pub adds-hidden : (d : Doc) (u : ℤ) (xs : List Item) (x : Item) → is_hidden x ≡ true →
    Adds d u xs x (outlines_of d u xs) [] []
adds-hidden d u xs x h = adds d u xs x [] (outlines_of d u xs) [] [] (hidden_at (length xs) x h)
    (append-nil (outlines_of d u xs)) refl refl

-- An item that holds nothing.
pub alone : (n : ℕ) (x : Item) → is_hidden x ≡ false → inside x ≡ [] → entries_at n (with_inside x) ≡ self_at n x ∷ []
alone n x h e = shown_at n x h ∙ ap (λ (z : List Entry). self_at n x ∷ map (within n) z) e

pub adds-leaf : (d : Doc) (u : ℤ) (xs : List Item) (x : Item) → kind_of x ≡ leaf → is_hidden x ≡ false →
    Adds d u xs x (outlines_of d u xs ++ own_outline d u x ∷ []) (Some identity ∷ []) []
adds-leaf d u xs x k v =
    let n = length xs in
    let l : leaves (self_at n x ∷ []) ≡ self_at n x ∷ [] =
    ap (λ (b : Bool). cond b (self_at n x ∷ []) []) (leaf_is x leaf k) in
    let s : styles (self_at n x ∷ []) ≡ [] = ap (λ (b : Bool). cond b (self_at n x ∷ []) []) (style_is x leaf k) in
    let r : trims (self_at n x ∷ []) ≡ [] = ap (λ (b : Bool). cond b (self_at n x ∷ []) []) (trim_is x leaf k) in
    adds d u xs x (self_at n x ∷ []) (outlines_of d u xs ++ own_outline d u x ∷ []) (Some identity ∷ []) []
    (alone n x v (inside-other x (group_is x leaf k)))
    (λ i. after_trims d u (leaves (live xs) ++ l i) (outlines_of d u xs ++ map (drawn d u) (l i)) (r i))
    (ap (map (whole d u (live xs ++ self_at n x ∷ []))) l ∙
    ap (λ (z : List Entry). product_of d u z ∷ []) (holders-own n (live xs) x (live-below xs)))
    (ap (map (painting d u (live xs ++ self_at n x ∷ []))) s)

pub adds-trim : (d : Doc) (u : ℤ) (xs : List Item) (x : Item) → kind_of x ≡ trim → is_hidden x ≡ false →
    Adds d u xs x (trimmed d u x (outlines_of d u xs)) [] []
adds-trim d u xs x k v =
    let n = length xs in
    let l : leaves (self_at n x ∷ []) ≡ [] = ap (λ (b : Bool). cond b (self_at n x ∷ []) []) (leaf_is x trim k) in
    let s : styles (self_at n x ∷ []) ≡ [] = ap (λ (b : Bool). cond b (self_at n x ∷ []) []) (style_is x trim k) in
    let r : trims (self_at n x ∷ []) ≡ self_at n x ∷ [] =
    ap (λ (b : Bool). cond b (self_at n x ∷ []) []) (trim_is x trim k) in
    adds d u xs x (self_at n x ∷ []) (trimmed d u x (outlines_of d u xs)) [] []
    (alone n x v (inside-other x (group_is x trim k)))
    ((λ i. after_trims d u (leaves (live xs) ++ l i) (outlines_of d u xs ++ map (drawn d u) (l i)) (r i)) ∙
    ((λ i. after_trim d u (append-nil (leaves (live xs)) i) (append-nil (outlines_of d u xs) i) (self_at n x)) ∙
    after-own d u n x (leaves (live xs)) (outlines_of d u xs) (outlines-length d u xs)
    (Each-filter (λ e. Below n e.place) (λ e. is_leaf e.item) (live xs) (live-below xs))))
    (ap (map (whole d u (live xs ++ self_at n x ∷ []))) l)
    (ap (map (painting d u (live xs ++ self_at n x ∷ []))) s)

pub adds-transform : (d : Doc) (u : ℤ) (xs : List Item) (x : Item) → kind_of x ≡ transform → is_hidden x ≡ false →
    Adds d u xs x (outlines_of d u xs) [] []
adds-transform d u xs x k v =
    let n = length xs in
    let l : leaves (self_at n x ∷ []) ≡ [] = ap (λ (b : Bool). cond b (self_at n x ∷ []) []) (leaf_is x transform k) in
    let s : styles (self_at n x ∷ []) ≡ [] = ap (λ (b : Bool). cond b (self_at n x ∷ []) []) (style_is x transform k) in
    let r : trims (self_at n x ∷ []) ≡ [] = ap (λ (b : Bool). cond b (self_at n x ∷ []) []) (trim_is x transform k) in
    adds d u xs x (self_at n x ∷ []) (outlines_of d u xs) [] []
    (alone n x v (inside-other x (group_is x transform k)))
    ((λ i. after_trims d u (leaves (live xs) ++ l i) (outlines_of d u xs ++ map (drawn d u) (l i)) (r i)) ∙
    append-nil (outlines_of d u xs))
    (ap (map (whole d u (live xs ++ self_at n x ∷ []))) l)
    (ap (map (painting d u (live xs ++ self_at n x ∷ []))) s)

-- What a style of the list itself paints.
abbrev pub style_of : Doc → ℤ → List Item → Painting
style_of d u xs = record {
  place = length xs ∷ [];
  from = 0;
  to = length (outlines_of d u xs);
  matrix = Some identity;
  groups = [];
  maps = maps_of d u xs;
}

style_of-is : (d : Doc) (u : ℤ) (xs : List Item) → own_painting d u (length xs) (live xs) ≡ style_of d u xs
unfolding maps_of
style_of-is d u xs =
    let e : length (leaves (live xs)) ≡ length (outlines_of d u xs) = sym (outlines-length d u xs) in
    λ i. record {
      place = length xs ∷ [];
      from = 0;
      to = e i;
      matrix = Some identity;
      groups = [];
      maps =
          map (whole d u (live xs)) (leaves (live xs));
    }

pub adds-style : (d : Doc) (u : ℤ) (xs : List Item) (x : Item) → kind_of x ≡ style → is_hidden x ≡ false →
    Adds d u xs x (outlines_of d u xs) [] (style_of d u xs ∷ [])
adds-style d u xs x k v =
    let n = length xs in
    let l : leaves (self_at n x ∷ []) ≡ [] = ap (λ (b : Bool). cond b (self_at n x ∷ []) []) (leaf_is x style k) in
    let s : styles (self_at n x ∷ []) ≡ self_at n x ∷ [] =
    ap (λ (b : Bool). cond b (self_at n x ∷ []) []) (style_is x style k) in
    let r : trims (self_at n x ∷ []) ≡ [] = ap (λ (b : Bool). cond b (self_at n x ∷ []) []) (trim_is x style k) in
    adds d u xs x (self_at n x ∷ []) (outlines_of d u xs) [] (style_of d u xs ∷ [])
    (alone n x v (inside-other x (group_is x style k)))
    ((λ i. after_trims d u (leaves (live xs) ++ l i) (outlines_of d u xs ++ map (drawn d u) (l i)) (r i)) ∙
    append-nil (outlines_of d u xs))
    (ap (map (whole d u (live xs ++ self_at n x ∷ []))) l)
    (ap (map (painting d u (live xs ++ self_at n x ∷ []))) s ∙
    ap (λ (z : Painting). z ∷ []) (painting-own d u n (live xs) x (leaf_is x style k) (live-below xs)
    (live-nonempty xs) ∙ style_of-is d u xs))

-- What a group adds.
module _ (d : Doc) (u : ℤ) (xs : List Item) (x : Item) (k : kind_of x ≡ group) (v : is_hidden x ≡ false) where
  held : List Entry
  held = self_at (length xs) x ∷ map (within (length xs)) (live (items_of x))

  held-is : entries_at (length xs) (with_inside x) ≡ held
  unfolding held
  held-is =
      shown_at (length xs) x v ∙
      ap (λ (z : List Entry). self_at (length xs) x ∷ map (within (length xs)) z) (inside-live x)

  held-leaves : leaves held ≡ map (within (length xs)) (leaves (live (items_of x)))
  unfolding held
  held-leaves =
      ap (λ (b : Bool). cond b (self_at (length xs) x ∷ leaves (map (within (length xs)) (live (items_of x))))
      (leaves (map (within (length xs)) (live (items_of x))))) (leaf_is x group k) ∙
      filter_map (within (length xs)) (λ e. is_leaf e.item) (λ e. is_leaf e.item) (live (items_of x))
      (Each-from (λ e. is_leaf e.item ≡ is_leaf e.item) (λ e. refl) (live (items_of x)))

  held-styles : styles held ≡ map (within (length xs)) (styles (live (items_of x)))
  unfolding held
  held-styles =
      ap (λ (b : Bool). cond b (self_at (length xs) x ∷ styles (map (within (length xs)) (live (items_of x))))
      (styles (map (within (length xs)) (live (items_of x))))) (style_is x group k) ∙
      filter_map (within (length xs)) (λ e. is_style e.item) (λ e. is_style e.item) (live (items_of x))
      (Each-from (λ e. is_style e.item ≡ is_style e.item) (λ e. refl) (live (items_of x)))

  held-trims : trims held ≡ map (within (length xs)) (trims (live (items_of x)))
  unfolding held
  held-trims =
      ap (λ (b : Bool). cond b (self_at (length xs) x ∷ trims (map (within (length xs)) (live (items_of x))))
      (trims (map (within (length xs)) (live (items_of x))))) (trim_is x group k) ∙
      filter_map (within (length xs)) (λ e. is_trim e.item) (λ e. is_trim e.item) (live (items_of x))
      (Each-from (λ e. is_trim e.item ≡ is_trim e.item) (λ e. refl) (live (items_of x)))

  outlines-it : after_trims d u (leaves (live (items_of x))) (map (drawn d u) (leaves (live (items_of x))))
      (trims (live (items_of x))) ≡ outlines_of d u (items_of x)
  unfolding outlines_of
  outlines-it = refl

  held-outlines : after_trims d u (leaves (live xs) ++ leaves held)
      (outlines_of d u xs ++ map (drawn d u) (leaves held)) (trims held) ≡ outlines_of d u xs ++ outlines_of d u
      (items_of x)
  held-outlines =
      let g = within (length xs) in
      (λ i. after_trims d u (leaves (live xs) ++ held-leaves i)
      (outlines_of d u xs ++ map (drawn d u) (held-leaves i)) (held-trims i)) ∙
      (ap (λ (z : List (Option Outline)). after_trims d u (leaves (live xs) ++ map g (leaves (live (items_of x))))
      (outlines_of d u xs ++ z) (map g (trims (live (items_of x)))))
      (map-map g (drawn d u) (leaves (live (items_of x)))) ∙
      (trims-within d u (length xs) (leaves (live xs)) (leaves (live (items_of x))) (outlines_of d u xs)
      (map (drawn d u) (leaves (live (items_of x)))) (trims (live (items_of x)))
      (outlines-length d u xs)
      (Each-filter (λ e. NonEmpty e.place) (λ e. is_trim e.item) (live (items_of x)) (live-nonempty (items_of x)))
      (Each-filter (λ e. Below (length xs) e.place) (λ e. is_leaf e.item) (live xs) (live-below xs)) ∙
      ap (λ (z : List (Option Outline)). outlines_of d u xs ++ z) outlines-it))

  held-maps : map (whole d u (live xs ++ held)) (leaves held) ≡ map (λ a. then_both a (group_matrix d u x))
      (maps_of d u (items_of x))
  unfolding held maps_of
  held-maps =
      let w = whole d u (live xs ++ held) in
      ap (map w) held-leaves ∙
      (map-map (within (length xs)) w (leaves (live (items_of x))) ∙
      (map_same (λ q. w (within (length xs) q))
      (λ q. then_both (whole d u (live (items_of x)) q) (group_matrix d u x)) (leaves (live (items_of x)))
      (Each-weaker (λ q. NonEmpty q.place)
      (λ q. w (within (length xs) q) ≡ then_both (whole d u (live (items_of x)) q) (group_matrix d u x))
      (λ q t. ap (product_of d u) (holders-within (length xs) (live xs) (live (items_of x)) x q (group_is x group k) t
      (live-below xs)) ∙
      product-around d u (length xs) (holders (live (items_of x)) q) x)
      (leaves (live (items_of x)))
      (Each-filter (λ e. NonEmpty e.place) (λ e. is_leaf e.item) (live (items_of x)) (live-nonempty (items_of x)))) ∙
      sym (map-map (whole d u (live (items_of x))) (λ a. then_both a (group_matrix d u x))
      (leaves (live (items_of x))))))

  held-paintings : map (painting d u (live xs ++ held)) (styles held) ≡ map
      (lifted (length xs) (group_matrix d u x) (group_opacity d u x) (length (outlines_of d u xs)))
      (paintings_of d u (items_of x))
  unfolding held paintings_of
  held-paintings =
      ap (map (painting d u (live xs ++ held))) held-styles ∙
      (map-map (within (length xs)) (painting d u (live xs ++ held)) (styles (live (items_of x))) ∙
      (map_same (λ s. painting d u (live xs ++ held) (within (length xs) s))
      (λ s. lifted (length xs) (group_matrix d u x) (group_opacity d u x) (length (outlines_of d u xs))
      (painting d u (live (items_of x)) s)) (styles (live (items_of x)))
      (Each-weaker (λ s. NonEmpty s.place)
      (λ s. painting d u (live xs ++ held) (within (length xs) s) ≡ lifted (length xs) (group_matrix d u x)
      (group_opacity d u x) (length (outlines_of d u xs)) (painting d u (live (items_of x)) s))
      (λ s t. painting-within d u (length xs) (live xs) (live (items_of x)) x s (leaf_is x group k)
      (group_is x group k) t (live-below xs) ∙
      (λ i. lifted (length xs) (group_matrix d u x) (group_opacity d u x) (sym (outlines-length d u xs) i)
      (painting d u (live (items_of x)) s)))
      (styles (live (items_of x)))
      (Each-filter (λ e. NonEmpty e.place) (λ e. is_style e.item) (live (items_of x)) (live-nonempty (items_of x)))) ∙
      sym (map-map (painting d u (live (items_of x)))
      (lifted (length xs) (group_matrix d u x) (group_opacity d u x) (length (outlines_of d u xs)))
      (styles (live (items_of x))))))

  pub adds-group : Adds d u xs x (outlines_of d u xs ++ outlines_of d u (items_of x))
      (map (λ a. then_both a (group_matrix d u x)) (maps_of d u (items_of x)))
      (map (lifted (length xs) (group_matrix d u x) (group_opacity d u x) (length (outlines_of d u xs)))
      (paintings_of d u (items_of x)))
  adds-group = adds d u xs x held (outlines_of d u xs ++ outlines_of d u (items_of x))
      (map (λ a. then_both a (group_matrix d u x)) (maps_of d u (items_of x)))
      (map (lifted (length xs) (group_matrix d u x) (group_opacity d u x) (length (outlines_of d u xs)))
      (paintings_of d u (items_of x))) held-is held-outlines held-maps held-paintings
