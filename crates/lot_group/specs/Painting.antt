-- What each style of a list paints at a time, and its matrix and opacities.
use Rattle.std.specs.Prelude.{ℕ, ℤ, ◌+◌, List, map, length, Option}
use Rattle.lot_types.specs.declared.doc.Doc.{Doc}
use Rattle.lot_types.specs.declared.item.Item.{Item}
use Rattle.lot_types.specs.declared.matrix.Matrix.{Matrix}
use Rattle.lot_group.specs.Group.{group_matrix, group_opacity}
use Rattle.lot_group.specs.Live.{Entry, live, styles, painted_leaves, earlier_leaves, holders, groups_between}
use Rattle.lot_group.specs.Product.{map_product}

-- What a style paints, as `Painted` has it, but each value may be missing.
pub record Painting : Type 0 where
  pub place : List ℕ
  pub from : ℕ
  pub to : ℕ
  pub matrix : Option Matrix
  pub groups : List (Option ℤ)
  pub maps : List (Option Matrix)

-- The product of the matrices of groups, in order.
abbrev pub product_of : Doc → ℤ → List Entry → Option Matrix
product_of d t gs = map_product (map (λ g. group_matrix d t g.item) gs)

-- What the style s of these live items paints: the leaves before it in its list. Its matrix is the product of the
-- matrices of all groups that hold it, from the innermost outwards. The map of a leaf is the same product of those
-- groups only that hold the leaf and are within the list of the style.
unfoldable pub painting : Doc → ℤ → List Entry → Entry → Painting
painting d t all s = record {
  place = s.place;
  from = length (earlier_leaves all s);
  to = length (earlier_leaves all s) + length (painted_leaves all s);
  matrix = product_of d t (holders all s);
  groups = map (λ g. group_opacity d t g.item) (holders all s);
  maps = map (λ q. product_of d t (groups_between all s q)) (painted_leaves all s);
}

-- The live styles of a list, in order of place, with what each paints.
unfoldable pub paintings_of : Doc → ℤ → List Item → List Painting
paintings_of d t items = map (painting d t (live items)) (styles (live items))
