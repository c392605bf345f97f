-- The transform of a group, after the Lottie Specification 1.0, "Group": the first `tr` of its own list that is not
-- hidden. Other `tr` items do nothing, and neither do those outside a group.
use Rattle.std.specs.Prelude.{ℤ, List, [], ◌∷◌, Option, Some, None, if◌then◌else◌}
use Rattle.std.specs.Option.{option_or}
use Rattle.lot_geom.specs.Matrix.{identity, one_whole}
use Rattle.lot_prop.specs.Transform.{own_matrix, opacity_value}
use Rattle.lot_types.specs.declared.doc.Doc.{Doc}
use Rattle.lot_types.specs.declared.item.Item.{Item, out-Item}
use Rattle.lot_types.specs.declared.item.Item.TheOpen.{Item-F}
use Rattle.lot_types.specs.declared.item.Item.TheOpen as item
use Rattle.lot_types.specs.declared.matrix.Matrix.{Matrix}
use Rattle.lot_types.specs.declared.transform.Transform.{Transform}
use Rattle.lot_group.specs.Place.{items_of}

abbrev pub transform_in : Item-F Item → Option Transform
transform_in (item.Group hidden it) = None
transform_in (item.Rect hidden p s r d) = None
transform_in (item.Ellipse hidden p s d) = None
transform_in (item.Star hidden sy pt p r or_ os ir is_ d) = None
transform_in (item.Path hidden ks d) = None
transform_in (item.Fill hidden c o r) = None
transform_in (item.Stroke hidden c o w lc lj ml d) = None
transform_in (item.GradientFill hidden o s e t g h a r) = None
transform_in (item.GradientStroke hidden o s e t g h a w lc lj ml d) = None
transform_in (item.Trim hidden s e o m) = None
transform_in (item.Place hidden ks) = if hidden then None else Some ks

-- The transform that an item gives the list that it is in: that of a `tr` that is not hidden.
unfoldable pub given_transform : Item → Option Transform
given_transform x = transform_in (out-Item x)

-- The first of a list.
abbrev pub first_transform : List Item → Option Transform
first_transform [] = None
first_transform (x ∷ xs) = option_or (given_transform x) (first_transform xs)

-- The matrix and the opacity of a transform at a time. Without one they are the identity and 1.
abbrev pub matrix_of_found : Doc → ℤ → Option Transform → Option Matrix
matrix_of_found d t None = Some identity
matrix_of_found d t (Some ks) = own_matrix d ks t

abbrev pub opacity_of_found : Doc → ℤ → Option Transform → Option ℤ
opacity_of_found d t None = Some one_whole
opacity_of_found d t (Some ks) = opacity_value d ks.o t

-- The matrix of a group at a time.
unfoldable pub group_matrix : Doc → ℤ → Item → Option Matrix
group_matrix d t g = matrix_of_found d t (first_transform (items_of g))

-- Its opacity, as a fraction in millionths.
unfoldable pub group_opacity : Doc → ℤ → Item → Option ℤ
group_opacity d t g = opacity_of_found d t (first_transform (items_of g))
