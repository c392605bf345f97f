-- The contours of shapes at a time, after the Lottie Specification 1.0, "Shapes". A shape that has a property without a
-- value has none.
use Rattle.std.specs.Prelude.{ℕ, ℤ, List, [], ◌∷◌, Option, None, option_map, option_and_then}
use Rattle.lot_geom.specs.Path.{path_contours}
use Rattle.lot_types.specs.declared.contour.Contour.{Contour}
use Rattle.lot_types.specs.declared.doc.Doc.{Doc}
use Rattle.lot_types.specs.declared.item.Item.{Item, out-Item}
use Rattle.lot_types.specs.declared.item.Item.TheOpen.{Item-F}
use Rattle.lot_types.specs.declared.item.Item.TheOpen as item
use Rattle.lot_types.specs.declared.point.Point.{Point}
use Rattle.lot_types.specs.declared.prop.Prop.{Prop}
use Rattle.lot_types.specs.Curve.{Curve}
use Rattle.lot_types.specs.PropertyValues.{PropertyValues}
use Rattle.lot_outline.specs.Ellipse.{ellipse}
use Rattle.lot_outline.specs.Polystar.{polystar, polystar_of_kind, point_count, ring_of}
use Rattle.lot_outline.specs.Rectangle.{rectangle}
use Rattle.lot_outline.specs.Reversed.{directed}

abbrev pub alone : Contour → List Contour
alone c = c ∷ []

-- The contour of a rectangle at a time, as a list.
unfoldable pub rectangle_contours : PropertyValues → Doc → Prop Point → Prop Point → Prop ℤ → ℤ → Option (List Contour)
rectangle_contours values doc p s r t =
    option_and_then (λ p. option_and_then (λ s. option_map (λ r. alone (rectangle p s r))
    (values.scalar doc r t)) (values.vector doc s t)) (values.vector doc p t)

-- The contour of an ellipse.
unfoldable pub ellipse_contours : PropertyValues → Doc → Prop Point → Prop Point → ℤ → Option (List Contour)
ellipse_contours values doc p s t =
    option_and_then (λ p. option_map (λ s. alone (ellipse p s)) (values.vector doc s t)) (values.vector doc p t)

-- The contour of a star or a polygon of n points.
abbrev pub polystar_contour : ℕ → ℕ → Point → ℤ → ℤ → ℤ → ℤ → ℤ → Contour
polystar_contour sy n p r or_ os ir is_ = polystar (polystar_of_kind sy p r n (ring_of or_ os n) (ring_of ir is_ n))

-- That of the values of its properties.
unfoldable pub polystar_contours : PropertyValues → Doc → ℕ → Prop ℤ → Prop Point → Prop ℤ → Prop ℤ → Prop ℤ → Prop ℤ
    → Prop ℤ → ℤ → Option (List Contour)
polystar_contours values doc sy pt p r or_ os ir is_ t =
    option_and_then (λ pt. option_and_then (λ p. option_and_then (λ r. option_and_then (λ or_. option_and_then (λ os.
    option_and_then (λ ir. option_map (λ is_. alone (polystar_contour sy (point_count pt) p r or_ os ir is_))
    (values.scalar doc is_ t)) (values.scalar doc ir t)) (values.scalar doc os t)) (values.scalar doc or_ t))
    (values.scalar doc r t)) (values.vector doc p t)) (values.scalar doc pt t)

-- The contours of a path.
abbrev pub contours_of_path : PropertyValues → Doc → Prop Curve → ℤ → Option (List Contour)
contours_of_path values doc ks t = option_map path_contours (values.bezier doc ks t)

-- An item that is no shape has none.
abbrev pub contours_in : PropertyValues → Doc → Item-F Item → ℤ → Option (List Contour)
contours_in values doc (item.Group hidden it) t = None
contours_in values doc (item.Rect hidden p s r d) t = option_map (directed d) (rectangle_contours values doc p s r t)
contours_in values doc (item.Ellipse hidden p s d) t = option_map (directed d) (ellipse_contours values doc p s t)
contours_in values doc (item.Star hidden sy pt p r or_ os ir is_ d) t =
    option_map (directed d) (polystar_contours values doc sy pt p r or_ os ir is_ t)
contours_in values doc (item.Path hidden ks d) t = option_map (directed d) (contours_of_path values doc ks t)
contours_in values doc (item.Fill hidden c o r) t = None
contours_in values doc (item.Stroke hidden c o w lc lj ml d) t = None
contours_in values doc (item.GradientFill hidden o s e k g h a r) t = None
contours_in values doc (item.GradientStroke hidden o s e k g h a w lc lj ml d) t = None
contours_in values doc (item.Trim hidden s e o m) t = None
contours_in values doc (item.Place hidden ks) t = None

-- The contours of a shape of a document at a time, in its direction.
unfoldable pub leaf_contours : PropertyValues → Doc → Item → ℤ → Option (List Contour)
leaf_contours values d leaf t = contours_in values d (out-Item leaf) t
