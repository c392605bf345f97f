-- The leaves and the styles of the items of a shape layer at a time.
use Rattle.std.specs.Prelude.{◌≡◌, ℕ, ℤ, true, List, map, Option, Some, None}
use Rattle.lot_group.specs.Outlines.{outlines_of}
use Rattle.lot_group.specs.Painting.{Painting, paintings_of}
use Rattle.lot_group.specs.Place.{item_at}
use Rattle.lot_types.specs.declared.collected.Collected.{Collected}
use Rattle.lot_types.specs.declared.doc.Doc.{Doc}
use Rattle.lot_types.specs.declared.item.Item.{Item}
use Rattle.lot_types.specs.declared.matrix.Matrix.{Matrix}
use Rattle.lot_types.specs.declared.outline.Outline.{Outline}
use Rattle.lot_types.specs.declared.painted.Painted.{Painted}
use Rattle.lot_types.specs.Items.{is_style, HasOwnValues}
use Rattle.lot_types.specs.Options.{all_present}

-- What a style paints, where its matrix, all its groups and all its maps have values.
abbrev pub painted_with : List ℕ → ℕ → ℕ → Option Matrix → Option (List ℤ) → Option (List Matrix) → Option Painted
painted_with place from to (Some m) (Some groups) (Some maps) =
    Some (record { place = place; from = from; to = to; matrix = m; groups = groups; maps = maps })
painted_with place from to (Some m) (Some groups) None = None
painted_with place from to (Some m) None maps = None
painted_with place from to None groups maps = None

abbrev pub painted_of : Painting → Option Painted
painted_of p = painted_with p.place p.from p.to p.matrix (all_present p.groups) (all_present p.maps)

-- Both lists, where there are both.
abbrev pub collected_with : Option (List Outline) → Option (List Painted) → Option Collected
collected_with (Some leaves) (Some styles) = Some (record { leaves = leaves; styles = styles })
collected_with (Some leaves) None = None
collected_with None styles = None

-- The outlines of the leaves after their trims, and what each style paints. Where a value is missing there is none.
unfoldable pub collected : Doc → ℤ → List Item → Option Collected
collected d t items =
    collected_with (all_present (outlines_of d t items)) (all_present (map painted_of (paintings_of d t items)))

-- A place leads to a style whose properties have values.
pub record LeadsToStyle (d : Doc) (items : List Item) (place : List ℕ) : Type 0 where
  pub style : Item
  pub at : item_at items place ≡ Some style
  pub kind : is_style style ≡ true
  pub values : HasOwnValues d style
