-- What a style paints in a list with more items at its end, and in a group of a list.
use Rattle.std.proofs.Common.{◌≡◌, ℕ, ℤ, ◌+◌, List, [], ◌∷◌, ◌++◌, map, length, Option, Some, refl, ap, ◌∙◌, Bool, true, false, arith}
use Rattle.std.proofs.lemmas.List.{append-nil, length-map, length-append, map_push}
use Rattle.std.proofs.lemmas.List.Elements.{filter-append}
use Rattle.std.specs.List.{filter}
use Rattle.std.specs.Prelude.{cond}
use Rattle.lot_geom.specs.Matrix.{identity}
use Rattle.lot_types.specs.declared.doc.Doc.{Doc}
use Rattle.lot_types.specs.declared.item.Item.{Item}
use Rattle.lot_types.specs.declared.matrix.Matrix.{Matrix}
use Rattle.lot_types.specs.Items.{is_leaf}
use Rattle.lot_group.specs.Group.{group_matrix, group_opacity}
use Rattle.lot_group.specs.Live.{Entry, is_group, within, leaves, covers, earlier, painted_leaves, earlier_leaves, holders, groups_between}
use Rattle.lot_group.specs.Painting.{Painting, painting, product_of}
use Rattle.lot_group.specs.Product.{then_both, map_product, map_product_from}
use Rattle.lot_group.proofs.Filters.{Each, Each-filter, Each-weaker, Each-from, filter_none, filter_all, filter_map, map_same, map-map}
use Rattle.lot_group.proofs.Places.{Below, At, NonEmpty, covers-later, earlier-later, covers-inner, earlier-inner, covers-within, earlier-within, covers-own, earlier-own}
use Rattle.lot_group.proofs.Holders.{holders-old, holders-own, holders-within, groups_between-old, groups_between-own, groups_between-within}
use Rattle.lot_group.proofs.Live.{self_at}

product_from-push : (a : Option Matrix) (ms : List (Option Matrix)) (m : Option Matrix) →
    map_product_from a (ms ++ m ∷ []) ≡ then_both (map_product_from a ms) m
product_from-push a [] m = refl
product_from-push a (x ∷ ms) m = product_from-push (then_both a x) ms m

pub product-push : (ms : List (Option Matrix)) (m : Option Matrix) →
    map_product (ms ++ m ∷ []) ≡ then_both (map_product ms) m
product-push ms m = product_from-push (Some identity) ms m

-- A painting from the leaves before its list, those that it paints, the groups that hold it, and its maps.
abbrev made : Doc → ℤ → Entry → List Entry → List Entry → List Entry → List (Option Matrix) → Painting
made d t s before here around maps = record {
  place = s.place;
  from = length before;
  to = length before + length here;
  matrix = product_of d t around;
  groups = map (λ g. group_opacity d t g.item) around;
  maps = maps;
}

painted-each : (P : Entry → Type 0) (all : List Entry) (s : Entry) → Each P all → Each P (painted_leaves all s)
unfolding painted_leaves
painted-each P all s h = Each-filter P (λ q. covers s.place q.place) (leaves all)
    (Each-filter P (λ e. is_leaf e.item) all h)

-- 1. What comes later in the list changes nothing.
pub painted_leaves-old : (n : ℕ) (all new : List Entry) (s : Entry) → Below n s.place → Each (λ e. At n e.place) new →
    painted_leaves (all ++ new) s ≡ painted_leaves all s
unfolding painted_leaves
painted_leaves-old n all new s b a =
    ap (filter (λ q. covers s.place q.place)) (filter-append (λ e. is_leaf e.item) all new) ∙
    (filter-append (λ q. covers s.place q.place) (leaves all) (leaves new) ∙
    (ap (λ (z : List Entry). painted_leaves all s ++ z)
    (filter_none (λ q. covers s.place q.place) (leaves new)
    (Each-weaker (λ e. At n e.place) (λ q. covers s.place q.place ≡ false) (λ q. covers-later n s.place q.place b)
    (leaves new)
    (Each-filter (λ e. At n e.place) (λ e. is_leaf e.item) new a))) ∙
    append-nil (painted_leaves all s)))

pub earlier_leaves-old : (n : ℕ) (all new : List Entry) (s : Entry) → Below n s.place → Each (λ e. At n e.place) new →
    earlier_leaves (all ++ new) s ≡ earlier_leaves all s
unfolding earlier_leaves
earlier_leaves-old n all new s b a =
    ap (filter (λ q. earlier s.place q.place)) (filter-append (λ e. is_leaf e.item) all new) ∙
    (filter-append (λ q. earlier s.place q.place) (leaves all) (leaves new) ∙
    (ap (λ (z : List Entry). earlier_leaves all s ++ z)
    (filter_none (λ q. earlier s.place q.place) (leaves new)
    (Each-weaker (λ e. At n e.place) (λ q. earlier s.place q.place ≡ false) (λ q. earlier-later n s.place q.place b)
    (leaves new)
    (Each-filter (λ e. At n e.place) (λ e. is_leaf e.item) new a))) ∙
    append-nil (earlier_leaves all s)))

pub painting-old : (d : Doc) (u : ℤ) (n : ℕ) (all new : List Entry) (s : Entry) → Below n s.place →
    Each (λ e. Below n e.place) all → Each (λ e. At n e.place) new →
    painting d u (all ++ new) s ≡ painting d u all s
unfolding painting
painting-old d u n all new s b c a =
    let here = painted_leaves-old n all new s b a in
    let maps = ap (map (λ q. product_of d u (groups_between (all ++ new) s q))) here ∙
    map_same (λ q. product_of d u (groups_between (all ++ new) s q)) (λ q. product_of d u (groups_between all s q))
    (painted_leaves all s)
    (Each-weaker (λ e. Below n e.place)
    (λ q. product_of d u (groups_between (all ++ new) s q) ≡ product_of d u (groups_between all s q))
    (λ q c. ap (product_of d u) (groups_between-old n all new s q c a)) (painted_leaves all s)
    (painted-each (λ e. Below n e.place) all s c)) in
    λ i. made d u s (earlier_leaves-old n all new s b a i) (here i) (holders-old n all new s b a i) (maps i)

-- 2. A style of the list itself paints all leaves before it.
abbrev pub own_painting : Doc → ℤ → ℕ → List Entry → Painting
own_painting d u n all = record {
  place = n ∷ [];
  from = 0;
  to = length (leaves all);
  matrix = Some identity;
  groups = [];
  maps = map (λ q. product_of d u (holders all q)) (leaves all);
}

pub leaves-self : (n : ℕ) (all : List Entry) (x : Item) → is_leaf x ≡ false →
    leaves (all ++ self_at n x ∷ []) ≡ leaves all
leaves-self n all x h =
    filter-append (λ e. is_leaf e.item) all (self_at n x ∷ []) ∙
    (ap (λ (b : Bool). leaves all ++ cond b (self_at n x ∷ []) []) h ∙ append-nil (leaves all))

pub painted_leaves-own : (n : ℕ) (all : List Entry) (x : Item) → is_leaf x ≡ false → Each (λ e. Below n e.place) all →
    painted_leaves (all ++ self_at n x ∷ []) (self_at n x) ≡ leaves all
unfolding painted_leaves
painted_leaves-own n all x h b =
    ap (filter (λ q. covers (n ∷ []) q.place)) (leaves-self n all x h) ∙
    filter_all (λ q. covers (n ∷ []) q.place) (leaves all)
    (Each-weaker (λ e. Below n e.place) (λ q. covers (n ∷ []) q.place ≡ true) (λ q. covers-own n q.place) (leaves all)
    (Each-filter (λ e. Below n e.place) (λ e. is_leaf e.item) all b))

pub earlier_leaves-own : (n : ℕ) (all : List Entry) (x : Item) → earlier_leaves all (self_at n x) ≡ []
unfolding earlier_leaves
earlier_leaves-own n all x =
    filter_none (λ q. earlier (n ∷ []) q.place) (leaves all)
    (Each-from (λ q. earlier (n ∷ []) q.place ≡ false) (λ q. earlier-own n q.place) (leaves all))

pub painting-own : (d : Doc) (u : ℤ) (n : ℕ) (all : List Entry) (x : Item) → is_leaf x ≡ false →
    Each (λ e. Below n e.place) all → Each (λ e. NonEmpty e.place) all →
    painting d u (all ++ self_at n x ∷ []) (self_at n x) ≡ own_painting d u n all
unfolding painting
painting-own d u n all x h b t =
    let e : 0 + length (leaves all) ≡ length (leaves all) = omega arith in
    let here = painted_leaves-own n all x h b in
    let f = λ (q : Entry). product_of d u (groups_between (all ++ self_at n x ∷ []) (self_at n x) q) in
    let maps = ap (map f) here ∙
    map_same f (λ q. product_of d u (holders all q)) (leaves all)
    (Each-weaker (λ e. Below n e.place) (λ q. f q ≡ product_of d u (holders all q))
    (λ q c. ap (product_of d u) (groups_between-own n all x q c t)) (leaves all)
    (Each-filter (λ e. Below n e.place) (λ e. is_leaf e.item) all b)) in
    (λ i. made d u (self_at n x) (earlier_leaves-own n (all ++ self_at n x ∷ []) x i) (here i)
    (holders-own n all x b i) (maps i)) ∙
    (λ i. record {
      place = n ∷ [];
      from = 0;
      to = e i;
      matrix = Some identity;
      groups = [];
      maps =
          map (λ q. product_of d u (holders all q)) (leaves all);
    })

-- 3. A style in a group paints what it paints in the group's own list.
abbrev pub lifted : ℕ → Option Matrix → Option ℤ → ℕ → Painting → Painting
lifted n m o before p = record {
  place = n ∷ p.place;
  from = before + p.from;
  to = before + p.to;
  matrix = then_both p.matrix m;
  groups = p.groups ++ o ∷ [];
  maps = p.maps;
}

pub leaves-within : (n : ℕ) (all sub : List Entry) (g : Item) → is_leaf g ≡ false →
    leaves (all ++ self_at n g ∷ map (within n) sub) ≡ leaves all ++ map (within n) (leaves sub)
leaves-within n all sub g h =
    filter-append (λ e. is_leaf e.item) all (self_at n g ∷ map (within n) sub) ∙
    (ap (λ (b : Bool). leaves all ++ cond b (self_at n g ∷ leaves (map (within n) sub)) (leaves (map (within n) sub)))
    h ∙
    ap (λ (z : List Entry). leaves all ++ z)
    (filter_map (within n) (λ e. is_leaf e.item) (λ e. is_leaf e.item) sub
    (Each-from (λ e. is_leaf e.item ≡ is_leaf e.item) (λ e. refl) sub)))

pub painted_leaves-within : (n : ℕ) (all sub : List Entry) (g : Item) (s : Entry) → is_leaf g ≡ false →
    NonEmpty s.place → Each (λ e. Below n e.place) all →
    painted_leaves (all ++ self_at n g ∷ map (within n) sub) (within n s) ≡ map (within n) (painted_leaves sub s)
unfolding painted_leaves
painted_leaves-within n all sub g s h t b =
    ap (filter (λ q. covers (n ∷ s.place) q.place)) (leaves-within n all sub g h) ∙
    (filter-append (λ q. covers (n ∷ s.place) q.place) (leaves all) (map (within n) (leaves sub)) ∙
    (ap (λ (z : List Entry). z ++ filter (λ q. covers (n ∷ s.place) q.place) (map (within n) (leaves sub)))
    (filter_none (λ q. covers (n ∷ s.place) q.place) (leaves all)
    (Each-weaker (λ e. Below n e.place) (λ q. covers (n ∷ s.place) q.place ≡ false)
    (λ q. covers-inner n s.place q.place t) (leaves all)
    (Each-filter (λ e. Below n e.place) (λ e. is_leaf e.item) all b))) ∙
    filter_map (within n) (λ q. covers (n ∷ s.place) q.place) (λ q. covers s.place q.place) (leaves sub)
    (Each-from (λ q. covers (n ∷ s.place) (n ∷ q.place) ≡ covers s.place q.place)
    (λ q. covers-within n s.place q.place t) (leaves sub))))

pub earlier_leaves-within : (n : ℕ) (all sub : List Entry) (g : Item) (s : Entry) → is_leaf g ≡ false →
    NonEmpty s.place → Each (λ e. Below n e.place) all →
    earlier_leaves (all ++ self_at n g ∷ map (within n) sub) (within n s) ≡ leaves all ++ map (within n)
    (earlier_leaves sub s)
unfolding earlier_leaves
earlier_leaves-within n all sub g s h t b =
    ap (filter (λ q. earlier (n ∷ s.place) q.place)) (leaves-within n all sub g h) ∙
    (filter-append (λ q. earlier (n ∷ s.place) q.place) (leaves all) (map (within n) (leaves sub)) ∙
    (λ i. filter_all (λ q. earlier (n ∷ s.place) q.place) (leaves all)
    (Each-weaker (λ e. Below n e.place) (λ q. earlier (n ∷ s.place) q.place ≡ true)
    (λ q. earlier-inner n s.place q.place t) (leaves all)
    (Each-filter (λ e. Below n e.place) (λ e. is_leaf e.item) all b)) i ++
    filter_map (within n) (λ q. earlier (n ∷ s.place) q.place) (λ q. earlier s.place q.place) (leaves sub)
    (Each-from (λ q. earlier (n ∷ s.place) (n ∷ q.place) ≡ earlier s.place q.place)
    (λ q. earlier-within n s.place q.place t) (leaves sub)) i))

-- The values of the groups of a group's list are as they were.
pub values-within : {V : Type 0} (f : Item → V) (n : ℕ) (gs : List Entry) →
    map (λ g. f g.item) (map (within n) gs) ≡ map (λ g. f g.item) gs
values-within f n gs = map-map (within n) (λ g. f g.item) gs

pub values-around : {V : Type 0} (f : Item → V) (n : ℕ) (gs : List Entry) (g : Item) →
    map (λ e. f e.item) (map (within n) gs ++ self_at n g ∷ []) ≡ map (λ e. f e.item) gs ++ f g ∷ []
values-around f n gs g =
    map_push (λ (e : Entry). f e.item) (map (within n) gs) (self_at n g) ∙
    ap (λ (z : List _). z ++ f g ∷ []) (values-within f n gs)

pub product-around : (d : Doc) (u : ℤ) (n : ℕ) (gs : List Entry) (g : Item) →
    product_of d u (map (within n) gs ++ self_at n g ∷ []) ≡ then_both (product_of d u gs) (group_matrix d u g)
product-around d u n gs g =
    ap map_product (values-around (group_matrix d u) n gs g) ∙
    product-push (map (λ e. group_matrix d u e.item) gs) (group_matrix d u g)

pub painting-within : (d : Doc) (u : ℤ) (n : ℕ) (all sub : List Entry) (g : Item) (s : Entry) → is_leaf g ≡ false →
    is_group g ≡ true → NonEmpty s.place → Each (λ e. Below n e.place) all →
    painting d u (all ++ self_at n g ∷ map (within n) sub) (within n s) ≡ lifted n (group_matrix d u g)
    (group_opacity d u g) (length (leaves all)) (painting d u sub s)
unfolding painting
painting-within d u n all sub g s h k t b =
    let f : length (leaves all ++ map (within n) (earlier_leaves sub s)) ≡ length (leaves all) + length
    (earlier_leaves sub s) =
    length-append (leaves all) (map (within n) (earlier_leaves sub s)) ∙
    ap (λ (z : ℕ). length (leaves all) + z) (length-map (earlier_leaves sub s) (within n)) in
    let v : length (leaves all ++ map (within n) (earlier_leaves sub s)) + length
    (map (within n) (painted_leaves sub s)) ≡ length
    (leaves all) + (length (earlier_leaves sub s) + length (painted_leaves sub s)) =
    omega (arith, f, length-map (painted_leaves sub s) (within n)) in
    let here = painted_leaves-within n all sub g s h t b in
    let around = holders-within n all sub g s k t b in
    let m = λ (q : Entry). product_of d u (groups_between (all ++ self_at n g ∷ map (within n) sub) (within n s) q) in
    let m' = λ (q : Entry). product_of d u (groups_between sub s q) in
    let maps = ap (map m) here ∙ (map-map (within n) m (painted_leaves sub s) ∙
    map_same (λ q. m (within n q)) m' (painted_leaves sub s)
    (Each-from (λ q. m (within n q) ≡ m' q)
    (λ q. ap (product_of d u) (groups_between-within n all sub g s q k t b) ∙
    ap map_product (values-within (group_matrix d u) n (groups_between sub s q))) (painted_leaves sub s))) in
    (λ i. made d u (within n s) (earlier_leaves-within n all sub g s h t b i) (here i) (around i) (maps i)) ∙
    (λ i. record {
      place = n ∷ s.place;
      from = f i;
      to = v i;
      matrix = product-around d u n (holders sub s) g i;
      groups = values-around (group_opacity d u) n (holders sub s) g i;
      maps = map m' (painted_leaves sub s);
    })
