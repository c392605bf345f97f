-- The groups that hold an item, in a list with more items at its end, and in a group of a list.
use Rattle.std.proofs.Common.{◌≡◌, ℕ, ◌<◌, List, [], ◌∷◌, ◌++◌, map, length, reverse, refl, ap, sym, ◌∙◌, Bool, true, false, arith, suc, inl, inr}
use Rattle.std.proofs.lemmas.List.{append-nil, reverse-append, map-append}
use Rattle.std.proofs.lemmas.List.Elements.{filter-append}
use Rattle.std.proofs.lemmas.Bool.{cases_lt, le-leb, lt-leb, and_left, and_right}
use Rattle.std.specs.List.{filter}
use Rattle.std.specs.Prelude.{cond, nat_le, ◌&&◌}
use Rattle.lot_types.specs.declared.item.Item.{Item}
use Rattle.lot_group.specs.Live.{Entry, is_group, within, groups, holds, holders, groups_between}
use Rattle.lot_group.proofs.Filters.{Each, Each-filter, Each-weaker, Each-from, filter_none, filter_map, filter_same}
use Rattle.lot_group.proofs.Places.{Below, At, NonEmpty, holds-later, holds-earlier, holds-within, holds-self, holds-none}
use Rattle.lot_group.proofs.Live.{self_at}

map-reverse : {X Y : Type 0} (f : X → Y) (xs : List X) → reverse (map f xs) ≡ map f (reverse xs)
map-reverse f [] = refl
map-reverse f (x ∷ xs) =
    reverse-append (f x ∷ []) (map f xs) ∙
    (ap (λ (z : List _). z ++ f x ∷ []) (map-reverse f xs) ∙
    (sym (map-append f (reverse xs) (x ∷ [])) ∙ ap (map f) (sym (reverse-append (x ∷ []) xs))))

leb-suc : (a b : ℕ) → nat_le (suc a) (suc b) ≡ nat_le a b
leb-suc a b =
    elim (cases_lt b a) [
      | inl h ↦ lt-leb (suc a) (suc b) (omega arith) ∙ sym (lt-leb a b h)
      | inr h ↦ le-leb (suc a) (suc b) (omega arith) ∙ sym (le-leb a b h)
    ]

long : (s : List ℕ) → NonEmpty s → 1 < suc (length s)
long [] t = absurd t
long (i ∷ s) t = omega arith

one_more : (g q : Entry) → NonEmpty g.place →
    (holds g.place q.place && nat_le 1 (length g.place)) ≡ holds g.place q.place
one_more g q t =
    ap (λ (b : Bool). holds g.place q.place && b) (le-leb 1 (length g.place) (omega (arith, long g.place t))) ∙
    elim (holds g.place q.place) as (λ b. (b && true) ≡ b) [ true ↦ refl | false ↦ refl ]

-- A test that nothing new passes.
chosen-old : (p : Entry → Bool) (all new : List Entry) → Each (λ g. p g ≡ false) new →
    filter p (groups (all ++ new)) ≡ filter p (groups all)
chosen-old p all new h =
    ap (filter p) (filter-append (λ e. is_group e.item) all new) ∙
    (filter-append p (groups all) (groups new) ∙
    (ap (λ (z : List Entry). filter p (groups all) ++ z)
    (filter_none p (groups new) (Each-filter (λ g. p g ≡ false) (λ e. is_group e.item) new h)) ∙
    append-nil (filter p (groups all))))

-- A test that nothing old passes.
chosen-new : (p : Entry → Bool) (all new : List Entry) → Each (λ g. p g ≡ false) all →
    filter p (groups (all ++ new)) ≡ filter p (groups new)
chosen-new p all new h =
    ap (filter p) (filter-append (λ e. is_group e.item) all new) ∙
    (filter-append p (groups all) (groups new) ∙
    ap (λ (z : List Entry). z ++ filter p (groups new))
    (filter_none p (groups all) (Each-filter (λ g. p g ≡ false) (λ e. is_group e.item) all h)))

groups-held : (n : ℕ) (sub : List Entry) (g : Item) → is_group g ≡ true →
    groups (self_at n g ∷ map (within n) sub) ≡ self_at n g ∷ map (within n) (groups sub)
groups-held n sub g h =
    ap (λ (b : Bool). cond b (self_at n g ∷ groups (map (within n) sub)) (groups (map (within n) sub))) h ∙
    ap (λ (z : List Entry). self_at n g ∷ z) (filter_map (within n) (λ e. is_group e.item) (λ e. is_group e.item) sub
    (Each-from (λ e. is_group e.item ≡ is_group e.item) (λ e. refl) sub))

-- 1. What comes later holds nothing of what was there.
pub holders-old : (n : ℕ) (all new : List Entry) (q : Entry) → Below n q.place → Each (λ e. At n e.place) new →
    holders (all ++ new) q ≡ holders all q
unfolding holders
holders-old n all new q b a =
    ap reverse (chosen-old (λ g. holds g.place q.place) all new
    (Each-weaker (λ e. At n e.place) (λ g. holds g.place q.place ≡ false) (λ g h. holds-later n g.place q.place h b)
    new a))

pub groups_between-old : (n : ℕ) (all new : List Entry) (s q : Entry) → Below n q.place →
    Each (λ e. At n e.place) new → groups_between (all ++ new) s q ≡ groups_between all s q
unfolding groups_between
groups_between-old n all new s q b a =
    ap reverse (chosen-old (λ g. holds g.place q.place && nat_le (length s.place) (length g.place)) all new
    (Each-weaker (λ e. At n e.place)
    (λ g. (holds g.place q.place && nat_le (length s.place) (length g.place)) ≡ false)
    (λ g h. and_left _ _ (holds-later n g.place q.place h b)) new a))

-- 2. No group holds an item of the list itself.
pub holders-own : (n : ℕ) (all : List Entry) (x : Item) → Each (λ e. Below n e.place) all →
    holders (all ++ self_at n x ∷ []) (self_at n x) ≡ []
unfolding holders
holders-own n all x b =
    ap reverse (chosen-new (λ g. holds g.place (n ∷ [])) all (self_at n x ∷ [])
    (Each-weaker (λ e. Below n e.place) (λ g. holds g.place (n ∷ []) ≡ false) (λ g. holds-earlier n g.place []) all b) ∙
    filter_none (λ g. holds g.place (n ∷ [])) (groups (self_at n x ∷ []))
    (Each-filter (λ g. holds g.place (n ∷ []) ≡ false) (λ e. is_group e.item) (self_at n x ∷ [])
    (holds-within n [] [] ∙ holds-none [], tt)))

pub groups_between-own : (n : ℕ) (all : List Entry) (x : Item) (q : Entry) → Below n q.place →
    Each (λ e. NonEmpty e.place) all →
    groups_between (all ++ self_at n x ∷ []) (self_at n x) q ≡ holders all q
unfolding groups_between holders
groups_between-own n all x q b t =
    let p = λ (g : Entry). holds g.place q.place && nat_le 1 (length g.place) in
    ap reverse (chosen-old p all (self_at n x ∷ []) (and_left _ _ (holds-later n (n ∷ []) q.place refl b), tt) ∙
    filter_same p (λ g. holds g.place q.place) (groups all)
    (Each-weaker (λ e. NonEmpty e.place) (λ g. p g ≡ holds g.place q.place) (λ g. one_more g q) (groups all)
    (Each-filter (λ e. NonEmpty e.place) (λ e. is_group e.item) all t)))

-- 3. A group holds what it holds, and the group's own groups as in its list.
pub holders-within : (n : ℕ) (all sub : List Entry) (g : Item) (q : Entry) → is_group g ≡ true → NonEmpty q.place →
    Each (λ e. Below n e.place) all →
    holders (all ++ self_at n g ∷ map (within n) sub) (within n q) ≡ map (within n) (holders sub q) ++ self_at n g ∷ []
unfolding holders
holders-within n all sub g q h t b =
    let p = λ (e : Entry). holds e.place (n ∷ q.place) in
    ap reverse (chosen-new p all (self_at n g ∷ map (within n) sub)
    (Each-weaker (λ e. Below n e.place) (λ g. p g ≡ false) (λ g. holds-earlier n g.place q.place) all b) ∙
    (ap (filter p) (groups-held n sub g h) ∙
    ((λ i. cond (holds-self n q.place t i) (self_at n g ∷ filter p (map (within n) (groups sub)))
    (filter p (map (within n) (groups sub)))) ∙
    ap (λ (z : List Entry). self_at n g ∷ z)
    (filter_map (within n) p (λ e. holds e.place q.place) (groups sub)
    (Each-from (λ e. holds (n ∷ e.place) (n ∷ q.place) ≡ holds e.place q.place) (λ e. holds-within n e.place q.place)
    (groups sub)))))) ∙
    (reverse-append (self_at n g ∷ []) (map (within n) (filter (λ e. holds e.place q.place) (groups sub))) ∙
    ap (λ (z : List Entry). z ++ self_at n g ∷ [])
    (map-reverse (within n) (filter (λ e. holds e.place q.place) (groups sub))))

pub groups_between-within : (n : ℕ) (all sub : List Entry) (g : Item) (s q : Entry) → is_group g ≡ true →
    NonEmpty s.place → Each (λ e. Below n e.place) all →
    groups_between (all ++ self_at n g ∷ map (within n) sub) (within n s) (within n q) ≡ map (within n)
    (groups_between sub s q)
unfolding groups_between
groups_between-within n all sub g s q h t b =
    let p = λ (e : Entry). holds e.place (n ∷ q.place) && nat_le (suc (length s.place)) (length e.place) in
    let p' = λ (e : Entry). holds e.place q.place && nat_le (length s.place) (length e.place) in
    ap reverse (chosen-new p all (self_at n g ∷ map (within n) sub)
    (Each-weaker (λ e. Below n e.place) (λ g. p g ≡ false) (λ g c. and_left _ _ (holds-earlier n g.place q.place c))
    all b) ∙
    (ap (filter p) (groups-held n sub g h) ∙
    ((λ i. cond (and_right (holds (n ∷ []) (n ∷ q.place)) (nat_le (suc (length s.place)) 1)
    (lt-leb (suc (length s.place)) 1 (long s.place t)) i) (self_at n g ∷ filter p (map (within n) (groups sub)))
    (filter p (map (within n) (groups sub)))) ∙
    filter_map (within n) p p' (groups sub)
    (Each-from (λ e. p (within n e) ≡ p' e)
    (λ e i. holds-within n e.place q.place i && leb-suc (length s.place) (length e.place) i) (groups sub))))) ∙
    map-reverse (within n) (filter p' (groups sub))
