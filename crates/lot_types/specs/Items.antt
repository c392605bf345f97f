-- The items of a shape layer: what each does, and all that a list holds. After the Lottie Specification 1.0, "Shapes".
use Rattle.std.specs.Prelude.{◌≤◌, Bool, true, false, List, [], ◌∷◌, flat_map, length}
use Rattle.std.specs.List.{All}
use Rattle.lot_types.specs.declared.dash.Dash.{Dash}
use Rattle.lot_types.specs.declared.doc.Doc.{Doc}
use Rattle.lot_types.specs.declared.item.Item.{Item, out-Item}
use Rattle.lot_types.specs.declared.item.Item.TheOpen.{Item-F}
use Rattle.lot_types.specs.declared.item.Item.TheOpen as item
use Rattle.lot_types.specs.declared.item.Item.TheFolds.{para-Item}
use Rattle.lot_types.specs.Limits.{max_list_items}
use Rattle.lot_types.specs.Slots.{HasScalar, HasVector, HasColor, HasBezier, HasGradient, HasValues}

-- What an item is. A leaf is a shape, and a style paints leaves.
pub data ItemKind : Type 0 where
  group : ItemKind
  leaf : ItemKind
  style : ItemKind
  trim : ItemKind
  transform : ItemKind

abbrev pub kind_in : Item-F Item → ItemKind
kind_in (item.Group hidden it) = group
kind_in (item.Rect hidden p s r d) = leaf
kind_in (item.Ellipse hidden p s d) = leaf
kind_in (item.Star hidden sy pt p r or_ os ir is_ d) = leaf
kind_in (item.Path hidden ks d) = leaf
kind_in (item.Fill hidden c o r) = style
kind_in (item.Stroke hidden c o w lc lj ml d) = style
kind_in (item.GradientFill hidden o s e t g h a r) = style
kind_in (item.GradientStroke hidden o s e t g h a w lc lj ml d) = style
kind_in (item.Trim hidden s e o m) = trim
kind_in (item.Place hidden ks) = transform

unfoldable pub kind_of : Item → ItemKind
kind_of x = kind_in (out-Item x)

abbrev pub is_leaf_kind : ItemKind → Bool
is_leaf_kind group = false
is_leaf_kind leaf = true
is_leaf_kind style = false
is_leaf_kind trim = false
is_leaf_kind transform = false

abbrev pub is_style_kind : ItemKind → Bool
is_style_kind group = false
is_style_kind leaf = false
is_style_kind style = true
is_style_kind trim = false
is_style_kind transform = false

unfoldable pub is_leaf : Item → Bool
is_leaf x = is_leaf_kind (kind_of x)

unfoldable pub is_style : Item → Bool
is_style x = is_style_kind (kind_of x)

-- The member `hd`.
abbrev pub hidden_in : Item-F Item → Bool
hidden_in (item.Group hidden it) = hidden
hidden_in (item.Rect hidden p s r d) = hidden
hidden_in (item.Ellipse hidden p s d) = hidden
hidden_in (item.Star hidden sy pt p r or_ os ir is_ d) = hidden
hidden_in (item.Path hidden ks d) = hidden
hidden_in (item.Fill hidden c o r) = hidden
hidden_in (item.Stroke hidden c o w lc lj ml d) = hidden
hidden_in (item.GradientFill hidden o s e t g h a r) = hidden
hidden_in (item.GradientStroke hidden o s e t g h a w lc lj ml d) = hidden
hidden_in (item.Trim hidden s e o m) = hidden
hidden_in (item.Place hidden ks) = hidden

unfoldable pub is_hidden : Item → Bool
is_hidden x = hidden_in (out-Item x)

-- All items that an item holds, in order of place: each item of its list, and after it those that this one holds.
abbrev pub with_held : Item × List Item → List Item
with_held x = x.0 ∷ x.1

abbrev pub held_in : Item-F (Item × List Item) → List Item
held_in (item.Group hidden it) = flat_map with_held it
held_in (item.Rect hidden p s r d) = []
held_in (item.Ellipse hidden p s d) = []
held_in (item.Star hidden sy pt p r or_ os ir is_ d) = []
held_in (item.Path hidden ks d) = []
held_in (item.Fill hidden c o r) = []
held_in (item.Stroke hidden c o w lc lj ml d) = []
held_in (item.GradientFill hidden o s e t g h a r) = []
held_in (item.GradientStroke hidden o s e t g h a w lc lj ml d) = []
held_in (item.Trim hidden s e o m) = []
held_in (item.Place hidden ks) = []

unfoldable pub held : Item → List Item
held = para-Item (List Item) held_in

-- All items of a list, with those that they hold.
unfoldable pub all_items : List Item → List Item
all_items items = flat_map (λ x. x ∷ held x) items

-- ---- what is asked of items

abbrev pub FewIn : Item-F Item → Type 0
FewIn (item.Group hidden it) = length it ≤ max_list_items
FewIn (item.Rect hidden p s r d) = Unit {0}
FewIn (item.Ellipse hidden p s d) = Unit {0}
FewIn (item.Star hidden sy pt p r or_ os ir is_ d) = Unit {0}
FewIn (item.Path hidden ks d) = Unit {0}
FewIn (item.Fill hidden c o r) = Unit {0}
FewIn (item.Stroke hidden c o w lc lj ml d) = length d ≤ max_list_items
FewIn (item.GradientFill hidden o s e t g h a r) = Unit {0}
FewIn (item.GradientStroke hidden o s e t g h a w lc lj ml d) = length d ≤ max_list_items
FewIn (item.Trim hidden s e o m) = Unit {0}
FewIn (item.Place hidden ks) = Unit {0}

-- The list of items or of dashes that the item has, if it has one, is within the limit.
unfoldable pub HasFewItems : Item → Type 0
HasFewItems x = FewIn (out-Item x)

abbrev pub DashesHaveValues : Doc → List Dash → Type 0
DashesHaveValues doc dashes = All (λ dash. HasScalar doc dash.v) dashes

abbrev pub ValuesIn : Doc → Item-F Item → Type 0
ValuesIn doc (item.Group hidden it) = Unit {0}
ValuesIn doc (item.Rect hidden p s r d) = HasVector doc p × HasVector doc s × HasScalar doc r
ValuesIn doc (item.Ellipse hidden p s d) = HasVector doc p × HasVector doc s
ValuesIn doc (item.Star hidden sy pt p r or_ os ir is_ d) =
    HasScalar doc pt × HasVector doc p × HasScalar doc r × HasScalar doc or_ × HasScalar doc os × HasScalar doc ir
    × HasScalar doc is_
ValuesIn doc (item.Path hidden ks d) = HasBezier doc ks
ValuesIn doc (item.Fill hidden c o r) = HasColor doc c × HasScalar doc o
ValuesIn doc (item.Stroke hidden c o w lc lj ml d) =
    HasColor doc c × HasScalar doc o × HasScalar doc w × DashesHaveValues doc d
ValuesIn doc (item.GradientFill hidden o s e t g h a r) =
    HasScalar doc o × HasVector doc s × HasVector doc e × HasGradient doc g.k × HasScalar doc h × HasScalar doc a
ValuesIn doc (item.GradientStroke hidden o s e t g h a w lc lj ml d) =
    HasScalar doc o × HasVector doc s × HasVector doc e × HasGradient doc g.k × HasScalar doc h × HasScalar doc a
    × HasScalar doc w × DashesHaveValues doc d
ValuesIn doc (item.Trim hidden s e o m) = HasScalar doc s × HasScalar doc e × HasScalar doc o
ValuesIn doc (item.Place hidden ks) = HasValues doc ks

-- The properties of the item itself have values in the document. What it holds is not asked.
unfoldable pub HasOwnValues : Doc → Item → Type 0
HasOwnValues doc x = ValuesIn doc (out-Item x)

-- Items of a shape layer of a document, as the reader answers them.
pub record AreItemsOf (doc : Doc) (items : List Item) : Type 0 where
  pub few : length items ≤ max_list_items
  pub few_within : All HasFewItems (all_items items)
  pub values : All (HasOwnValues doc) (all_items items)
