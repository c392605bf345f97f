-- What an item holds, by its kind and by its list, and facts of all lists of items.
use Rattle.std.proofs.Common.{◌≡◌, false, List, [], ◌∷◌, ◌++◌, map, refl, ap, sym, ◌∙◌, subst, append_assoc}
use Rattle.std.proofs.lemmas.List.{append-nil}
use Rattle.std.specs.Prelude.{flat_map}
use Rattle.lot_types.specs.declared.item.Item.{Item, Item-F, out-Item, roll-Item, roll-out-Item, out-roll-Item}
use Rattle.lot_types.specs.declared.item.Item.TheOpen as item
use Rattle.lot_types.specs.declared.item.Item.TheFolds.{para-roll-Item, ind-Item, map-Item}
use Rattle.lot_types.specs.Items.{ItemKind, kind_of, kind_in, is_leaf_kind, is_style_kind, is_leaf, is_style, with_held, held_in, held, all_items}
use Rattle.lot_group.specs.Live.{Entry, is_trim_kind, is_group_kind, is_trim, is_group, inside_in, inside, live}
use Rattle.lot_group.specs.Place.{list_in, items_of}
use Rattle.lot_group.proofs.Filters.{Each, Each-from}

-- What follows from the kind.
pub leaf_is : (x : Item) (k : ItemKind) → kind_of x ≡ k → is_leaf x ≡ is_leaf_kind k
unfolding is_leaf
leaf_is x k e = ap is_leaf_kind e

pub style_is : (x : Item) (k : ItemKind) → kind_of x ≡ k → is_style x ≡ is_style_kind k
unfolding is_style
style_is x k e = ap is_style_kind e

pub trim_is : (x : Item) (k : ItemKind) → kind_of x ≡ k → is_trim x ≡ is_trim_kind k
unfolding is_trim
trim_is x k e = ap is_trim_kind e

pub group_is : (x : Item) (k : ItemKind) → kind_of x ≡ k → is_group x ≡ is_group_kind k
unfolding is_group
group_is x k e = ap is_group_kind e

-- What an item holds are the live items of its list.
inside-roll : (y : Item-F Item) → inside (roll-Item y) ≡ live (list_in y)
unfolding inside live
inside-roll (item.Group h it) = para-roll-Item (List Entry) inside_in (item.Group h it)
inside-roll (item.Rect h p s r d) = para-roll-Item (List Entry) inside_in (item.Rect h p s r d)
inside-roll (item.Ellipse h p s d) = para-roll-Item (List Entry) inside_in (item.Ellipse h p s d)
inside-roll (item.Star h sy pt p r or_ os ir is_ d) =
    para-roll-Item (List Entry) inside_in (item.Star h sy pt p r or_ os ir is_ d)
inside-roll (item.Path h ks d) = para-roll-Item (List Entry) inside_in (item.Path h ks d)
inside-roll (item.Fill h c o r) = para-roll-Item (List Entry) inside_in (item.Fill h c o r)
inside-roll (item.Stroke h c o w lc lj ml d) = para-roll-Item (List Entry) inside_in (item.Stroke h c o w lc lj ml d)
inside-roll (item.GradientFill h o s e t g k a r) =
    para-roll-Item (List Entry) inside_in (item.GradientFill h o s e t g k a r)
inside-roll (item.GradientStroke h o s e t g k a w lc lj ml d) =
    para-roll-Item (List Entry) inside_in (item.GradientStroke h o s e t g k a w lc lj ml d)
inside-roll (item.Trim h s e o m) = para-roll-Item (List Entry) inside_in (item.Trim h s e o m)
inside-roll (item.Place h ks) = para-roll-Item (List Entry) inside_in (item.Place h ks)

pub inside-live : (x : Item) → inside x ≡ live (items_of x)
unfolding items_of
inside-live x = ap inside (sym (roll-out-Item x)) ∙ inside-roll (out-Item x)

-- All items that an item holds are those of its list.
held-list : (xs : List Item) → flat_map with_held (map (λ x. (x, held x)) xs) ≡ all_items xs
unfolding all_items
held-list [] = refl
held-list (x ∷ xs) = ap (λ (z : List Item). x ∷ (held x ++ z)) (held-list xs)

all_items-nil : all_items [] ≡ []
unfolding all_items
all_items-nil = refl

held-roll : (y : Item-F Item) → held (roll-Item y) ≡ all_items (list_in y)
unfolding held
held-roll (item.Group h it) = para-roll-Item (List Item) held_in (item.Group h it) ∙ held-list it
held-roll (item.Rect h p s r d) = para-roll-Item (List Item) held_in (item.Rect h p s r d) ∙ sym all_items-nil
held-roll (item.Ellipse h p s d) = para-roll-Item (List Item) held_in (item.Ellipse h p s d) ∙ sym all_items-nil
held-roll (item.Star h sy pt p r or_ os ir is_ d) =
    para-roll-Item (List Item) held_in (item.Star h sy pt p r or_ os ir is_ d) ∙ sym all_items-nil
held-roll (item.Path h ks d) = para-roll-Item (List Item) held_in (item.Path h ks d) ∙ sym all_items-nil
held-roll (item.Fill h c o r) = para-roll-Item (List Item) held_in (item.Fill h c o r) ∙ sym all_items-nil
held-roll (item.Stroke h c o w lc lj ml d) =
    para-roll-Item (List Item) held_in (item.Stroke h c o w lc lj ml d) ∙ sym all_items-nil
held-roll (item.GradientFill h o s e t g k a r) =
    para-roll-Item (List Item) held_in (item.GradientFill h o s e t g k a r) ∙ sym all_items-nil
held-roll (item.GradientStroke h o s e t g k a w lc lj ml d) =
    para-roll-Item (List Item) held_in (item.GradientStroke h o s e t g k a w lc lj ml d) ∙ sym all_items-nil
held-roll (item.Trim h s e o m) = para-roll-Item (List Item) held_in (item.Trim h s e o m) ∙ sym all_items-nil
held-roll (item.Place h ks) = para-roll-Item (List Item) held_in (item.Place h ks) ∙ sym all_items-nil

pub held-all : (x : Item) → held x ≡ all_items (items_of x)
unfolding items_of
held-all x = ap held (sym (roll-out-Item x)) ∙ held-roll (out-Item x)

-- An item that is no group has no list.
no_list : (y : Item-F Item) → is_group_kind (kind_in y) ≡ false → list_in y ≡ []
no_list (item.Group h it) k = absurd (cc)
no_list (item.Rect h p s r d) k = refl
no_list (item.Ellipse h p s d) k = refl
no_list (item.Star h sy pt p r or_ os ir is_ d) k = refl
no_list (item.Path h ks d) k = refl
no_list (item.Fill h c o r) k = refl
no_list (item.Stroke h c o w lc lj ml d) k = refl
no_list (item.GradientFill h o s e t g n a r) k = refl
no_list (item.GradientStroke h o s e t g n a w lc lj ml d) k = refl
no_list (item.Trim h s e o m) k = refl
no_list (item.Place h ks) k = refl

pub live-nil : live [] ≡ []
unfolding live
live-nil = refl

pub inside-other : (x : Item) → is_group x ≡ false → inside x ≡ []
unfolding is_group kind_of items_of
inside-other x h = inside-live x ∙ (ap live (no_list (out-Item x) h) ∙ live-nil)

-- A fact of each list of items, from that of a list with one more item at its end.
module _ (R : List Item → Type 0) (none : R [])
    (push : (xs : List Item) (x : Item) → R (items_of x) → R xs → R (xs ++ x ∷ [])) where
  list_from : (done xs : List Item) → R done → Each (λ x. R (items_of x)) xs → R (done ++ xs)
  list_from done [] r q = subst R (sym (append-nil done)) r
  list_from done (x ∷ xs) r q = subst R (append_assoc done (x ∷ []) xs)
      (list_from (done ++ x ∷ []) xs (push done x q.0 r) q.1)

  list_each : (ys : List ((x : Item) × R (items_of x))) → Each (λ x. R (items_of x)) (map (λ e. e.0) ys)
  list_each [] = tt
  list_each (y ∷ ys) = (y.1, list_each ys)

  list_of : (y : Item-F ((x : Item) × R (items_of x))) →
      R (list_in (map-Item ((x : Item) × R (items_of x)) Item (λ e. e.0) y))
  list_of (item.Group h it) = list_from [] (map (λ e. e.0) it) none (list_each it)
  list_of (item.Rect h p s r d) = none
  list_of (item.Ellipse h p s d) = none
  list_of (item.Star h sy pt p r or_ os ir is_ d) = none
  list_of (item.Path h ks d) = none
  list_of (item.Fill h c o r) = none
  list_of (item.Stroke h c o w lc lj ml d) = none
  list_of (item.GradientFill h o s e t g n a r) = none
  list_of (item.GradientStroke h o s e t g n a w lc lj ml d) = none
  list_of (item.Trim h s e o m) = none
  list_of (item.Place h ks) = none

  items_of-roll : (y : Item-F Item) → items_of (roll-Item y) ≡ list_in y
  unfolding items_of
  items_of-roll y = ap list_in (out-roll-Item y)

  pub items-ind : (xs : List Item) → R xs
  items-ind xs =
      list_from [] xs none
      (Each-from (λ x. R (items_of x))
      (ind-Item (λ x. R (items_of x)) (λ x y e. subst R (sym (items_of-roll x ∙ ap list_in (sym e))) (list_of y))) xs)

-- A fact of the live items of each list.
pub live-ind : (R : List Entry → Type 0) → R [] →
    ((xs : List Item) (x : Item) → R (inside x) → R (live xs) → R (live (xs ++ x ∷ []))) → (xs : List Item) →
    R (live xs)
live-ind R none push =
    items-ind (λ xs. R (live xs)) (subst R (sym live-nil) none)
    (λ xs x q r. push xs x (subst R (sym (inside-live x)) q) r)
