-- The live items of a list with their places, which of them a style paints, and which groups hold an item. After the
-- Lottie Specification 1.0, "Shapes". A hidden item counts as absent, with all that it holds.
use Rattle.std.specs.Prelude.{ℕ, ◌+◌, List, [], ◌∷◌, ◌++◌, map, length, reverse, nat_le, nat_lt, Bool, true, false, ◌==◌, ◌&&◌, ◌||◌, if◌then◌else◌}
use Rattle.std.specs.List.{filter}
use Rattle.lot_types.specs.declared.item.Item.{Item}
use Rattle.lot_types.specs.declared.item.Item.TheOpen.{Item-F}
use Rattle.lot_types.specs.declared.item.Item.TheOpen as item
use Rattle.lot_types.specs.declared.item.Item.TheFolds.{para-Item}
use Rattle.lot_types.specs.Items.{ItemKind, group, leaf, style, trim, transform, kind_of, is_hidden, is_leaf, is_style}

abbrev pub is_trim_kind : ItemKind → Bool
is_trim_kind group = false
is_trim_kind leaf = false
is_trim_kind style = false
is_trim_kind trim = true
is_trim_kind transform = false

abbrev pub is_group_kind : ItemKind → Bool
is_group_kind group = true
is_group_kind leaf = false
is_group_kind style = false
is_group_kind trim = false
is_group_kind transform = false

unfoldable pub is_trim : Item → Bool
is_trim x = is_trim_kind (kind_of x)

unfoldable pub is_group : Item → Bool
is_group x = is_group_kind (kind_of x)

-- A live item and its place: the indices that lead to it, the outermost first.
pub record Entry : Type 0 where
  pub place : List ℕ
  pub item : Item

-- An entry of the list of the n-th item, as one of the list that this item is in.
abbrev pub within : ℕ → Entry → Entry
within n e = record { place = n ∷ e.place; item = e.item }

-- An item as the n-th of its list, and then what it holds. Nothing where it is hidden.
abbrev pub entries_at : ℕ → Item × List Entry → List Entry
entries_at n x = if is_hidden x.0 then [] else (record { place = n ∷ []; item = x.0 } ∷ map (within n) x.1)

-- Items in order, of which the first is the n-th of its list.
abbrev pub entries_from : ℕ → List (Item × List Entry) → List Entry
entries_from n [] = []
entries_from n (x ∷ xs) = entries_at n x ++ entries_from (n + 1) xs

abbrev pub inside_in : Item-F (Item × List Entry) → List Entry
inside_in (item.Group hidden it) = entries_from 0 it
inside_in (item.Rect hidden p s r d) = []
inside_in (item.Ellipse hidden p s d) = []
inside_in (item.Star hidden sy pt p r or_ os ir is_ d) = []
inside_in (item.Path hidden ks d) = []
inside_in (item.Fill hidden c o r) = []
inside_in (item.Stroke hidden c o w lc lj ml d) = []
inside_in (item.GradientFill hidden o s e t g h a r) = []
inside_in (item.GradientStroke hidden o s e t g h a w lc lj ml d) = []
inside_in (item.Trim hidden s e o m) = []
inside_in (item.Place hidden ks) = []

-- The live items that an item holds, with their places in its list.
unfoldable pub inside : Item → List Entry
inside = para-Item (List Entry) inside_in

abbrev pub with_inside : Item → Item × List Entry
with_inside x = (x, inside x)

-- All live items of a list, in order of place.
unfoldable pub live : List Item → List Entry
live items = entries_from 0 (map with_inside items)

abbrev pub leaves : List Entry → List Entry
leaves all = filter (λ e. is_leaf e.item) all

abbrev pub styles : List Entry → List Entry
styles all = filter (λ e. is_style e.item) all

abbrev pub trims : List Entry → List Entry
trims all = filter (λ e. is_trim e.item) all

abbrev pub groups : List Entry → List Entry
groups all = filter (λ e. is_group e.item) all

-- ---- places

-- The place q has p, i as a prefix for an i below k, where the place s is p, k.
unfoldable pub covers : List ℕ → List ℕ → Bool
covers [] q = false
covers (k ∷ s) [] = false
covers (k ∷ []) (i ∷ q) = nat_lt i k
covers (k ∷ (l ∷ s)) (i ∷ q) = (i == k) && covers (l ∷ s) q

-- The place q comes before p and all that it encloses in order of place, where the place s is p, k.
unfoldable pub earlier : List ℕ → List ℕ → Bool
earlier [] q = false
earlier (k ∷ s) [] = false
earlier (k ∷ []) (i ∷ q) = false
earlier (k ∷ (l ∷ s)) (i ∷ q) = nat_lt i k || ((i == k) && earlier (l ∷ s) q)

-- The place g is a prefix of q and shorter.
unfoldable pub holds : List ℕ → List ℕ → Bool
holds [] [] = false
holds [] (i ∷ q) = true
holds (k ∷ g) [] = false
holds (k ∷ g) (i ∷ q) = (k == i) && holds g q

-- ---- leaves of a style, and groups of an item

-- The leaves that the style s paints: those before it in its list, nested ones too.
unfoldable pub painted_leaves : List Entry → Entry → List Entry
painted_leaves all s = filter (λ q. covers s.place q.place) (leaves all)

-- The leaves before the list that the style s is in.
unfoldable pub earlier_leaves : List Entry → Entry → List Entry
earlier_leaves all s = filter (λ q. earlier s.place q.place) (leaves all)

-- The groups that hold e, the longest place first.
unfoldable pub holders : List Entry → Entry → List Entry
holders all e = reverse (filter (λ g. holds g.place e.place) (groups all))

-- The groups that hold q and have a longer place than p, the longest first, where the style s is at p, k.
unfoldable pub groups_between : List Entry → Entry → Entry → List Entry
groups_between all s q =
    reverse (filter (λ g. holds g.place q.place && nat_le (length s.place) (length g.place)) (groups all))
