-- Places of items: lists of indices, the outermost first.
use Rattle.std.specs.Prelude.{◌≡◌, ℕ, List, [], ◌∷◌, Option, Some, None, slice_get}
use Rattle.lot_types.specs.declared.item.Item.{Item, out-Item}
use Rattle.lot_types.specs.declared.item.Item.TheOpen.{Item-F}
use Rattle.lot_types.specs.declared.item.Item.TheOpen as item

abbrev pub list_in : Item-F Item → List Item
list_in (item.Group hidden it) = it
list_in (item.Rect hidden p s r d) = []
list_in (item.Ellipse hidden p s d) = []
list_in (item.Star hidden sy pt p r or_ os ir is_ d) = []
list_in (item.Path hidden ks d) = []
list_in (item.Fill hidden c o r) = []
list_in (item.Stroke hidden c o w lc lj ml d) = []
list_in (item.GradientFill hidden o s e t g h a r) = []
list_in (item.GradientStroke hidden o s e t g h a w lc lj ml d) = []
list_in (item.Trim hidden s e o m) = []
list_in (item.Place hidden ks) = []

-- The items that an item has in its list.
unfoldable pub items_of : Item → List Item
items_of x = list_in (out-Item x)

abbrev pub items_of_found : Option Item → List Item
items_of_found None = []
items_of_found (Some x) = items_of x

-- The item at a place.
abbrev pub item_at : List Item → List ℕ → Option Item
item_at items [] = None
item_at items (k ∷ []) = slice_get items k
item_at items (k ∷ (l ∷ place)) = item_at (items_of_found (slice_get items k)) (l ∷ place)

pub record LeadsToItem (items : List Item) (place : List ℕ) : Type 0 where
  pub item : Item
  pub at : item_at items place ≡ Some item
