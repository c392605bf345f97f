-- A shape whose properties have values has contours at every time.
use Rattle.std.proofs.Common.{◌≡◌, ℕ, ℤ, true}
use Rattle.std.specs.Option.{IsSome}
use Rattle.lot_types.specs.declared.doc.Doc.{Doc}
use Rattle.lot_types.specs.declared.item.Item.{Item, Item-F, out-Item}
use Rattle.lot_types.specs.declared.item.Item.TheOpen as item
use Rattle.lot_types.specs.declared.point.Point.{Point}
use Rattle.lot_types.specs.declared.prop.Prop.{Prop}
use Rattle.lot_types.specs.Curve.{Curve}
use Rattle.lot_types.specs.Items.{HasOwnValues, ValuesIn, is_leaf, is_leaf_kind, kind_of, kind_in}
use Rattle.lot_types.specs.PropertyValues.{PropertyValues}
use Rattle.lot_types.specs.Slots.{HasScalar, HasVector, HasBezier}
use Rattle.lot_types.proofs.Present.{map_present, then_present}
use Rattle.lot_outline.specs.Leaf.{leaf_contours, contours_in, rectangle_contours, ellipse_contours, polystar_contours, contours_of_path}
use Rattle.lot_outline.specs.Reversed.{directed}

-- Properties of three kinds that have values in a document have them at a time.
pub record AreAnswered (values : PropertyValues) (doc : Doc) (t : ℤ) : Type 0 where
  pub scalar : (p : Prop ℤ) → HasScalar doc p → IsSome (values.scalar doc p t)
  pub vector : (p : Prop Point) → HasVector doc p → IsSome (values.vector doc p t)
  pub bezier : (p : Prop Curve) → HasBezier doc p → IsSome (values.bezier doc p t)

rectangle_present : (values : PropertyValues) (doc : Doc) (t : ℤ) (p s : Prop Point) (r : Prop ℤ) → AreAnswered values doc t
    → HasVector doc p × HasVector doc s × HasScalar doc r → IsSome (rectangle_contours values doc p s r t)
unfolding rectangle_contours
rectangle_present values doc t p s r given has =
    then_present _ (values.vector doc p t) (given.vector p has.0) (λ p.
    then_present _ (values.vector doc s t) (given.vector s has.1) (λ s.
    map_present _ (values.scalar doc r t) (given.scalar r has.2)))

ellipse_present : (values : PropertyValues) (doc : Doc) (t : ℤ) (p s : Prop Point) → AreAnswered values doc t
    → HasVector doc p × HasVector doc s → IsSome (ellipse_contours values doc p s t)
unfolding ellipse_contours
ellipse_present values doc t p s given has =
    then_present _ (values.vector doc p t) (given.vector p has.0) (λ p. map_present _ (values.vector doc s t) (given.vector s has.1))

polystar_present : (values : PropertyValues) (doc : Doc) (t : ℤ) (sy : ℕ) (pt : Prop ℤ) (p : Prop Point) (r or_ os ir is_ : Prop ℤ)
    → AreAnswered values doc t
    → HasScalar doc pt × HasVector doc p × HasScalar doc r × HasScalar doc or_ × HasScalar doc os × HasScalar doc ir × HasScalar doc is_
    → IsSome (polystar_contours values doc sy pt p r or_ os ir is_ t)
unfolding polystar_contours
polystar_present values doc t sy pt p r or_ os ir is_ given has =
    then_present _ (values.scalar doc pt t) (given.scalar pt has.0) (λ pt.
    then_present _ (values.vector doc p t) (given.vector p has.1) (λ p.
    then_present _ (values.scalar doc r t) (given.scalar r has.2) (λ r.
    then_present _ (values.scalar doc or_ t) (given.scalar or_ has.3) (λ or_.
    then_present _ (values.scalar doc os t) (given.scalar os has.4) (λ os.
    then_present _ (values.scalar doc ir t) (given.scalar ir has.5) (λ ir.
    map_present _ (values.scalar doc is_ t) (given.scalar is_ has.6)))))))

present_in : (values : PropertyValues) (doc : Doc) (t : ℤ) (y : Item-F Item) → AreAnswered values doc t
    → is_leaf_kind (kind_in y) ≡ true → ValuesIn doc y → IsSome (contours_in values doc y t)
present_in values doc t (item.Group z it) given leaf has = absurd (cc)
present_in values doc t (item.Rect z p s r d) given leaf has =
    map_present (directed d) (rectangle_contours values doc p s r t) (rectangle_present values doc t p s r given has)
present_in values doc t (item.Ellipse z p s d) given leaf has =
    map_present (directed d) (ellipse_contours values doc p s t) (ellipse_present values doc t p s given has)
present_in values doc t (item.Star z sy pt p r or_ os ir is_ d) given leaf has =
    map_present (directed d) (polystar_contours values doc sy pt p r or_ os ir is_ t)
    (polystar_present values doc t sy pt p r or_ os ir is_ given has)
present_in values doc t (item.Path z ks d) given leaf has =
    map_present (directed d) (contours_of_path values doc ks t) (map_present _ (values.bezier doc ks t) (given.bezier ks has))
present_in values doc t (item.Fill z c o r) given leaf has = absurd (cc)
present_in values doc t (item.Stroke z c o w lc lj ml d) given leaf has = absurd (cc)
present_in values doc t (item.GradientFill z o s e k g h a r) given leaf has = absurd (cc)
present_in values doc t (item.GradientStroke z o s e k g h a w lc lj ml d) given leaf has = absurd (cc)
present_in values doc t (item.Trim z s e o m) given leaf has = absurd (cc)
present_in values doc t (item.Place z ks) given leaf has = absurd (cc)

pub contours_present : (values : PropertyValues) (doc : Doc) (leaf : Item) (t : ℤ) → AreAnswered values doc t
    → is_leaf leaf ≡ true → HasOwnValues doc leaf → IsSome (leaf_contours values doc leaf t)
unfolding leaf_contours is_leaf kind_of HasOwnValues
contours_present values doc leaf t given kind has = present_in values doc t (out-Item leaf) given kind has
