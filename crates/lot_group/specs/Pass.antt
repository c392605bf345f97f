-- What the pass over a list has at hand. Only private contracts speak of it.
use Rattle.std.specs.Prelude.{ℕ, ℤ, ◌+◌, List, ◌++◌, map, reverse, Option, Some}
use Rattle.lot_types.specs.declared.doc.Doc.{Doc}
use Rattle.lot_types.specs.declared.item.Item.{Item}
use Rattle.lot_types.specs.declared.matrix.Matrix.{Matrix}
use Rattle.lot_types.specs.declared.painted.Painted.{Painted}
use Rattle.lot_group.specs.Live.{live, leaves, holders}
use Rattle.lot_group.specs.Painting.{Painting, product_of}
use Rattle.lot_group.specs.Product.{map_product_from}

-- A painting all of whose values are there.
abbrev pub present_painting : Painted → Painting
present_painting p = record {
  place = p.place;
  from = p.from;
  to = p.to;
  matrix = Some p.matrix;
  groups = map Some p.groups;
  maps = map Some p.maps;
}

-- For each leaf of a list the product of the matrices of all groups of the list that hold it.
unfoldable pub maps_of : Doc → ℤ → List Item → List (Option Matrix)
maps_of d t items = map (λ q. product_of d t (holders (live items) q)) (leaves (live items))

-- The groups that are open, the outermost first.
pub record OpenGroups : Type 0 where
  pub place : List ℕ
  pub matrices : List Matrix
  pub opacities : List ℤ

-- A painting of the list of the innermost open group, as one of the whole layer. The number is that of the leaves of
-- the layer that come before that list.
abbrev pub placed : OpenGroups → ℕ → Painting → Painting
placed around before p = record {
  place = around.place ++ p.place;
  from = before + p.from;
  to = before + p.to;
  matrix = map_product_from p.matrix (map Some (reverse around.matrices));
  groups = p.groups ++ map Some (reverse around.opacities);
  maps = p.maps;
}
