-- The items of a shape layer, whose properties have values, are collected at every time.
use Rattle.std.proofs.Common.{◌≡◌, ℕ, ℤ, List, [], ◌∷◌, map, length, drop, Bool, true, false, suc, refl, ap, subst, arith, ◌⊎◌, inl, inr}
use Rattle.std.specs.List.{All, filter}
use Rattle.std.specs.Option.{IsSome, option_or}
use Rattle.std.specs.Prelude.{Option, Some, None, cond, option_and_then, nat_le, ◌&&◌}
use Rattle.lot_outline.specs.Leaf.{leaf_contours}
use Rattle.lot_outline.proofs.Present.{AreAnswered, contours_present}
use Rattle.lot_prop.specs.Slots.{evaluated, scalar_value}
use Rattle.lot_prop.proofs.Present.{scalar_present, vector_present, bezier_present, matrix_present, opacity_present}
use Rattle.lot_types.specs.declared.collected.Collected.{Collected}
use Rattle.lot_types.specs.declared.doc.Doc.{Doc}
use Rattle.lot_types.specs.declared.item.Item.{Item, Item-F, out-Item}
use Rattle.lot_types.specs.declared.item.Item.TheOpen as item
use Rattle.lot_types.specs.declared.matrix.Matrix.{Matrix}
use Rattle.lot_types.specs.declared.outline.Outline.{Outline}
use Rattle.lot_types.specs.declared.painted.Painted.{Painted}
use Rattle.lot_types.specs.declared.transform.Transform.{Transform}
use Rattle.lot_types.specs.Items.{is_leaf, kind_of, kind_in, ValuesIn, HasOwnValues, AreItemsOf}
use Rattle.lot_types.specs.Options.{all_present}
use Rattle.lot_types.specs.Slots.{HasValues}
use Rattle.lot_types.proofs.Present.{map_present, then_present, put_present, none_missing}
use Rattle.lot_group.specs.Collected.{painted_with, painted_of, collected_with, collected, LeadsToStyle}
use Rattle.lot_group.specs.Group.{given_transform, first_transform, matrix_of_found, opacity_of_found, group_matrix, group_opacity}
use Rattle.lot_group.specs.Live.{Entry, is_trim, is_trim_kind, is_group, live, leaves, styles, trims, groups, holds, painted_leaves, holders, groups_between}
use Rattle.lot_group.specs.Outlines.{outline_of, own_outline, in_place_of, trimmed, chosen, first_new, replaced, acts, after_trim, after_trims, outlines_of}
use Rattle.lot_group.specs.Painting.{Painting, product_of, painting, paintings_of}
use Rattle.lot_group.specs.Place.{items_of}
use Rattle.lot_group.specs.Product.{then_both, map_product_from}
use Rattle.lot_group.specs.Trim.{cut_with, trimmed_in, trim_value}
use Rattle.lot_group.proofs.Filters.{Each, Each-both, Each-filter, Each-map, Each-mapped, Each-reverse, Each-weaker, all-from, filter_passed}
use Rattle.lot_group.proofs.Limits.{OfAll, each_of_all, transform-values}
use Rattle.lot_group.proofs.Styles.{live-all, live-of_all, paintings-lead}
use Rattle.lot_group.proofs.Trimmed.{trimmed-length}

-- ---- lists

-- No value of a list is missing.
abbrev AreThere : {A : Type 0} → List (Option A) → Type 0
AreThere os = Each IsSome os

all_there : {A : Type 0} (os : List (Option A)) → AreThere os → IsSome (all_present os)
all_there [] h = refl
all_there (o ∷ os) h = put_present o (all_present os) h.0 (all_there os h.1)

-- ---- leaves

answered : (d : Doc) (t : ℤ) → AreAnswered evaluated d t
answered d t = record {
  scalar = λ p has. scalar_present d p t has;
  vector = λ p has. vector_present d p t has;
  bezier = λ p has. bezier_present d p t has;
}

outline_present : (d : Doc) (t : ℤ) (x : Item) → is_leaf x ≡ true → HasOwnValues d x → IsSome (own_outline d t x)
unfolding own_outline
outline_present d t x kind has =
    map_present outline_of (leaf_contours evaluated d x t) (contours_present evaluated d x t (answered d t) kind has)

-- The entries of a kind, with their values.
of_kind : (P : Item → Type 0) (is_kind : Item → Bool) (all : List Entry) → Each (λ e. P e.item) all →
    Each (λ e. (is_kind e.item ≡ true) × P e.item) (filter (λ e. is_kind e.item) all)
of_kind P is_kind all h =
    Each-both (λ e. is_kind e.item ≡ true) (λ e. P e.item) (λ e. (is_kind e.item ≡ true) × P e.item) (λ e k p. (k, p))
    (filter (λ e. is_kind e.item) all) (filter_passed (λ e. is_kind e.item) all)
    (Each-filter (λ e. P e.item) (λ e. is_kind e.item) all h)

own_outlines_present : (d : Doc) (t : ℤ) (all : List Entry) → Each (λ e. HasOwnValues d e.item) all →
    AreThere (map (λ q. own_outline d t q.item) (leaves all))
own_outlines_present d t all h =
    Each-mapped IsSome (λ q. (is_leaf q.item ≡ true) × HasOwnValues d q.item) (λ q. own_outline d t q.item)
    (λ q k. outline_present d t q.item k.0 k.1) (leaves all) (of_kind (HasOwnValues d) is_leaf all h)

-- ---- trims

cut_present : (s e o : Option ℤ) → IsSome s → IsSome e → IsSome o → IsSome (cut_with s e o)
cut_present None e o hs he ho = absurd (cc)
cut_present (Some s) None o hs he ho = absurd (cc)
cut_present (Some s) (Some e) None hs he ho = absurd (cc)
cut_present (Some s) (Some e) (Some o) hs he ho = refl

trim_present_in : (d : Doc) (t : ℤ) (y : Item-F Item) (os : List Outline) → is_trim_kind (kind_in y) ≡ true → ValuesIn d y →
    IsSome (trimmed_in d t y os)
trim_present_in d t (item.Group z it) os kind has = absurd (cc)
trim_present_in d t (item.Rect z p s r c) os kind has = absurd (cc)
trim_present_in d t (item.Ellipse z p s c) os kind has = absurd (cc)
trim_present_in d t (item.Star z sy pt p r or_ os_ ir is_ c) os kind has = absurd (cc)
trim_present_in d t (item.Path z ks c) os kind has = absurd (cc)
trim_present_in d t (item.Fill z c o r) os kind has = absurd (cc)
trim_present_in d t (item.Stroke z c o w lc lj ml n) os kind has = absurd (cc)
trim_present_in d t (item.GradientFill z o s e k g h a r) os kind has = absurd (cc)
trim_present_in d t (item.GradientStroke z o s e k g h a w lc lj ml n) os kind has = absurd (cc)
trim_present_in d t (item.Trim z s e o m) os kind has =
    map_present _ (cut_with (scalar_value d s t) (scalar_value d e t) (scalar_value d o t))
    (cut_present (scalar_value d s t) (scalar_value d e t) (scalar_value d o t)
    (scalar_present d s t has.0) (scalar_present d e t has.1) (scalar_present d o t has.2))
trim_present_in d t (item.Place z ks) os kind has = absurd (cc)

trim_present : (d : Doc) (t : ℤ) (r : Item) (os : List Outline) → is_trim r ≡ true → HasOwnValues d r → IsSome (trim_value d t r os)
unfolding trim_value is_trim kind_of HasOwnValues
trim_present d t r os kind has = trim_present_in d t (out-Item r) os kind has

in_place_present : (os : List (Option Outline)) (made : Option (List Outline)) → IsSome made → AreThere (in_place_of os made)
in_place_present os None h = absurd (cc)
in_place_present os (Some made) h = Each-map IsSome Some (λ o. refl) made

trimmed_present : (d : Doc) (t : ℤ) (r : Item) (os : List (Option Outline)) → is_trim r ≡ true → HasOwnValues d r → AreThere os →
    AreThere (trimmed d t r os)
unfolding trimmed
trimmed_present d t r os kind has there =
    in_place_present os (option_and_then (trim_value d t r) (all_present os))
    (then_present (trim_value d t r) (all_present os) (all_there os there) (λ made. trim_present d t r made kind has))

chosen_present : (p : Entry → Bool) (qs : List Entry) (os : List (Option Outline)) → AreThere os → AreThere (chosen p qs os)
chosen_present p [] os there = tt
chosen_present p (q ∷ qs) [] there = tt
chosen_present p (q ∷ qs) (o ∷ os) there =
    elim (p q) as (λ b. AreThere (cond b (o ∷ chosen p qs os) (chosen p qs os))) [
      | true ↦ (there.0, chosen_present p qs os there.1)
      | false ↦ chosen_present p qs os there.1
    ]

-- The first of some new outlines and the others.
first_new_present : (new : List (Option Outline)) (n : ℕ) → length new ≡ suc n → AreThere new →
    IsSome (first_new new) × AreThere (drop 1 new) × (length (drop 1 new) ≡ n)
first_new_present [] n e there = absurd (omega (arith, e))
first_new_present (o ∷ new) n e there = (there.0, there.1, omega (arith, e))

-- There are as many new outlines as leaves that pass the test.
replaced_present : (p : Entry → Bool) (qs : List Entry) (os new : List (Option Outline)) → length new ≡ length (chosen p qs os) →
    AreThere os → AreThere new → AreThere (replaced p qs os new)
replaced_present p [] os new e there more = there
replaced_present p (q ∷ qs) [] new e there more = tt
replaced_present p (q ∷ qs) (o ∷ os) new e there more =
    (elim (p q) as (λ b. length new ≡ length (cond b (o ∷ chosen p qs os) (chosen p qs os)) →
    AreThere (cond b (first_new new ∷ replaced p qs os (drop 1 new)) (o ∷ replaced p qs os new))) [
      | true ↦ λ e.
          let first = first_new_present new (length (chosen p qs os)) e more in
          (first.0, replaced_present p qs os (drop 1 new) first.2 there.1 first.1)
      | false ↦ λ e. (there.0, replaced_present p qs os new e there.1 more)
    ]) e

after_present : (d : Doc) (t : ℤ) (qs : List Entry) (os : List (Option Outline)) (r : Entry) → is_trim r.item ≡ true →
    HasOwnValues d r.item → AreThere os → AreThere (after_trim d t qs os r)
unfolding after_trim
after_present d t qs os r kind has there =
    let old = chosen (acts r) qs os in
    replaced_present (acts r) qs os (trimmed d t r.item old) (trimmed-length d t r.item old) there
    (trimmed_present d t r.item old kind has (chosen_present (acts r) qs os there))

trims_present : (d : Doc) (t : ℤ) (qs : List Entry) (os : List (Option Outline)) (rs : List Entry) →
    Each (λ r. (is_trim r.item ≡ true) × HasOwnValues d r.item) rs → AreThere os → AreThere (after_trims d t qs os rs)
trims_present d t qs os [] h there = there
trims_present d t qs os (r ∷ rs) h there =
    trims_present d t qs (after_trim d t qs os r) rs h.1 (after_present d t qs os r h.0.0 h.0.1 there)

outlines_present : (d : Doc) (t : ℤ) (items : List Item) → AreItemsOf d items → AreThere (outlines_of d t items)
unfolding outlines_of
outlines_present d t items h =
    let all = live items in
    let has = live-all (HasOwnValues d) items h.values in
    trims_present d t (leaves all) (map (λ q. own_outline d t q.item) (leaves all)) (trims all)
    (of_kind (HasOwnValues d) is_trim all has) (own_outlines_present d t all has)

-- ---- groups

either_given : {A : Type 0} (x y : Option A) (z : A) → option_or x y ≡ Some z → (x ≡ Some z) ⊎ (y ≡ Some z)
either_given None y z e = inr e
either_given (Some x) y z e = inl e

first_transform_values : (d : Doc) (xs : List Item) (ks : Transform) → Each (HasOwnValues d) xs → first_transform xs ≡ Some ks → HasValues d ks
first_transform_values d [] ks h e = absurd (cc)
first_transform_values d (x ∷ xs) ks h e =
    elim (either_given (given_transform x) (first_transform xs) ks e) [
      | inl own ↦ transform-values d ks x own h.0
      | inr later ↦ first_transform_values d xs ks h.1 later
    ]

found_matrix_present : (d : Doc) (t : ℤ) (found : Option Transform) → ((ks : Transform) → found ≡ Some ks → HasValues d ks) →
    IsSome (matrix_of_found d t found)
found_matrix_present d t None h = refl
found_matrix_present d t (Some ks) h = matrix_present d ks t (h ks refl)

found_opacity_present : (d : Doc) (t : ℤ) (found : Option Transform) → ((ks : Transform) → found ≡ Some ks → HasValues d ks) →
    IsSome (opacity_of_found d t found)
found_opacity_present d t None h = refl
found_opacity_present d t (Some ks) h = opacity_present d ks.o t (h ks refl).opacity

-- The matrix and the opacity of a group are there.
record IsPlaced (d : Doc) (t : ℤ) (g : Entry) : Type 0 where
  matrix : IsSome (group_matrix d t g.item)
  opacity : IsSome (group_opacity d t g.item)

is_placed : (d : Doc) (t : ℤ) (g : Entry) → OfAll (HasOwnValues d) g.item → IsPlaced d t g
unfolding group_matrix group_opacity
is_placed d t g h =
    let own = items_of g.item in
    let has = Each-weaker (OfAll (HasOwnValues d)) (HasOwnValues d) (λ x k. k.0) own (each_of_all (HasOwnValues d) own h.1) in
    record {
      matrix = found_matrix_present d t (first_transform own) (λ ks e. first_transform_values d own ks has e);
      opacity = found_opacity_present d t (first_transform own) (λ ks e. first_transform_values d own ks has e);
    }

-- ---- products

pub both_present : (m n : Option Matrix) → IsSome m → IsSome n → IsSome (then_both m n)
unfolding then_both
both_present None n h k = absurd (cc)
both_present (Some m) None h k = absurd (cc)
both_present (Some m) (Some n) h k = refl

product_from_present : (m : Option Matrix) (ns : List (Option Matrix)) → IsSome m → AreThere ns → IsSome (map_product_from m ns)
product_from_present m [] h there = h
product_from_present m (n ∷ ns) h there = product_from_present (then_both m n) ns (both_present m n h there.0) there.1

product_present : (d : Doc) (t : ℤ) (gs : List Entry) → Each (IsPlaced d t) gs → IsSome (product_of d t gs)
product_present d t gs h =
    product_from_present _ (map (λ g. group_matrix d t g.item) gs) refl
    (Each-mapped IsSome (IsPlaced d t) (λ g. group_matrix d t g.item) (λ g k. k.matrix) gs h)

-- ---- paintings

each_holder : (P : Entry → Type 0) (all : List Entry) (e : Entry) → Each P all → Each P (holders all e)
unfolding holders
each_holder P all e h =
    let test = λ (g : Entry). holds g.place e.place in
    Each-reverse P (filter test (groups all)) (Each-filter P test (groups all) (Each-filter P (λ g. is_group g.item) all h))

each_between : (P : Entry → Type 0) (all : List Entry) (s q : Entry) → Each P all → Each P (groups_between all s q)
unfolding groups_between
each_between P all s q h =
    let test = λ (g : Entry). holds g.place q.place && nat_le (length s.place) (length g.place) in
    Each-reverse P (filter test (groups all)) (Each-filter P test (groups all) (Each-filter P (λ g. is_group g.item) all h))

painted_present_with : (place : List ℕ) (from to : ℕ) (m : Option Matrix) (groups : Option (List ℤ)) (maps : Option (List Matrix)) →
    IsSome m → IsSome groups → IsSome maps → IsSome (painted_with place from to m groups maps)
painted_present_with place from to None groups maps hm hg hp = absurd (cc)
painted_present_with place from to (Some m) None maps hm hg hp = absurd (cc)
painted_present_with place from to (Some m) (Some groups) None hm hg hp = absurd (cc)
painted_present_with place from to (Some m) (Some groups) (Some maps) hm hg hp = refl

painted_present : (d : Doc) (t : ℤ) (all : List Entry) (s : Entry) → Each (IsPlaced d t) all → IsSome (painted_of (painting d t all s))
unfolding painting
painted_present d t all s h =
    let p = painting d t all s in
    let around = each_holder (IsPlaced d t) all s h in
    painted_present_with p.place p.from p.to p.matrix (all_present p.groups) (all_present p.maps)
    (product_present d t (holders all s) around)
    (all_there p.groups
    (Each-mapped IsSome (IsPlaced d t) (λ g. group_opacity d t g.item) (λ g k. k.opacity) (holders all s) around))
    (all_there p.maps
    (Each-map IsSome (λ q. product_of d t (groups_between all s q))
    (λ q. product_present d t (groups_between all s q) (each_between (IsPlaced d t) all s q h)) (painted_leaves all s)))

paintings_present : (d : Doc) (t : ℤ) (items : List Item) → AreItemsOf d items → AreThere (map painted_of (paintings_of d t items))
unfolding paintings_of
paintings_present d t items h =
    let all = live items in
    let placed = Each-weaker (λ e. OfAll (HasOwnValues d) e.item) (IsPlaced d t) (λ e k. is_placed d t e k) all
    (live-of_all (HasOwnValues d) items h.values) in
    Each-mapped IsSome (λ p. IsSome (painted_of p)) painted_of (λ p k. k) (paintings_of d t items)
    (Each-map (λ p. IsSome (painted_of p)) (painting d t all) (λ s. painted_present d t all s placed) (styles all))

-- ---- all that is collected

collected_present_with : (leaves : Option (List Outline)) (styles : Option (List Painted)) → IsSome leaves → IsSome styles →
    IsSome (collected_with leaves styles)
collected_present_with None styles h k = absurd (cc)
collected_present_with (Some leaves) None h k = absurd (cc)
collected_present_with (Some leaves) (Some styles) h k = refl

pub collected_present : (d : Doc) (t : ℤ) (items : List Item) → AreItemsOf d items → IsSome (collected d t items)
unfolding collected
collected_present d t items h =
    collected_present_with (all_present (outlines_of d t items)) (all_present (map painted_of (paintings_of d t items)))
    (all_there (outlines_of d t items) (outlines_present d t items h))
    (all_there (map painted_of (paintings_of d t items)) (paintings_present d t items h))

-- ---- the places of the collected styles

place_with : (place : List ℕ) (from to : ℕ) (m : Option Matrix) (groups : Option (List ℤ)) (maps : Option (List Matrix)) (q : Painted) →
    painted_with place from to m groups maps ≡ Some q → place ≡ q.place
place_with place from to None groups maps q e = absurd (cc)
place_with place from to (Some m) None maps q e = absurd (cc)
place_with place from to (Some m) (Some groups) None q e = absurd (cc)
place_with place from to (Some m) (Some groups) (Some maps) q e =
    let same : record { place = place; from = from; to = to; matrix = m; groups = groups; maps = maps } ≡ q = cc in
    ap (λ (z : Painted). z.place) same

each_place : (P : List ℕ → Type 0) (ps : List Painting) (qs : List Painted) → map Some qs ≡ map painted_of ps →
    Each (λ p. P p.place) ps → Each (λ q. P q.place) qs
each_place P [] [] e h = tt
each_place P [] (q ∷ qs) e h = absurd (cc)
each_place P (p ∷ ps) [] e h = absurd (cc)
each_place P (p ∷ ps) (q ∷ qs) e h =
    let first : painted_of p ≡ Some q = cc in
    let others : map Some qs ≡ map painted_of ps = cc in (
      subst P (place_with p.place p.from p.to p.matrix (all_present p.groups) (all_present p.maps) q first) h.0,
      each_place P ps qs others h.1,
    )

styles_are : (leaves : Option (List Outline)) (styles : Option (List Painted)) (c : Collected) →
    collected_with leaves styles ≡ Some c → styles ≡ Some c.styles
styles_are None styles c e = absurd (cc)
styles_are (Some leaves) None c e = absurd (cc)
styles_are (Some leaves) (Some styles) c e =
    let same : record { leaves = leaves; styles = styles } ≡ c = cc in ap (λ (z : Collected). Some z.styles) same

pub collected_leads : (d : Doc) (t : ℤ) (items : List Item) (c : Collected) → AreItemsOf d items →
    collected d t items ≡ Some c → All (λ (p : Painted). LeadsToStyle d items p.place) c.styles
unfolding collected
collected_leads d t items c h e =
    let ps = paintings_of d t items in
    all-from (λ p. LeadsToStyle d items p.place) c.styles
    (each_place (LeadsToStyle d items) ps c.styles
    (none_missing (map painted_of ps) c.styles (styles_are (all_present (outlines_of d t items)) (all_present (map painted_of ps)) c e))
    (paintings-lead d t items h))
