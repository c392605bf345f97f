-- A property of a document that has a value in it has one at every time.
use Rattle.std.proofs.Common.{ℤ, ◌<◌, List, [], ◌∷◌, length, Option, Some, None, refl, arith}
use Rattle.std.specs.Option.{IsSome}
use Rattle.lot_types.specs.declared.doc.Doc.{Doc}
use Rattle.lot_types.specs.declared.color.Color.{Color}
use Rattle.lot_types.specs.declared.key.Key.{Key}
use Rattle.lot_types.specs.declared.point.Point.{Point}
use Rattle.lot_types.specs.declared.prop.Prop.{Prop}
use Rattle.lot_types.specs.declared.prop.Position.{Position}
use Rattle.lot_types.specs.declared.prop.Position.TheVariants.{Whole, Split}
use Rattle.lot_types.specs.declared.prop.Track.{Track}
use Rattle.lot_types.specs.declared.prop.Track.TheVariants.{Still, Moving}
use Rattle.lot_types.specs.declared.transform.Transform.{Transform}
use Rattle.lot_types.specs.Curve.{Curve}
use Rattle.lot_types.specs.Ramp.{Ramp}
use Rattle.lot_types.proofs.Present.{map_present, then_present}
use Rattle.lot_types.specs.Slots.{track_of, scalar_in, vector_in, color_in, bezier_in, gradient_in, HasValue, HasScalar, HasVector, HasColor, HasBezier, HasGradient, HasPosition, HasValues}
use Rattle.lot_prop.specs.InForce.{KeyAndNext, in_force, first_of}
use Rattle.lot_prop.specs.Slots.{value_in, scalar_value, vector_value, color_value, bezier_value, gradient_value}
use Rattle.lot_prop.specs.Transform.{point_of, position_value, own_matrix, opacity_fraction, opacity_value}
use Rattle.lot_prop.specs.Value.{Between, value_of_key, scalar_between, vector_between, color_between, bezier_between, gradient_between}
use Rattle.lot_prop.proofs.Founds.{value_by}

first_present : {A : Type 0} (keys : List (Key A)) → 0 < length keys → IsSome (value_of_key (first_of keys))
first_present [] some = absurd (omega (arith, some))
first_present (key ∷ keys) some = refl

by_present : {A : Type 0} (between : Between A) (t : ℤ) (keys : List (Key A)) (found : Option (KeyAndNext A)) → 0 < length keys
    → IsSome (value_by between t keys found)
by_present between t keys None some = first_present keys some
by_present between t keys (Some found) some = refl

track_present : {A : Type 0} (between : Between A) (t : ℤ) (track : Option (Track A)) → HasValue track → IsSome (value_in between t track)
unfolding HasValue
track_present between t None has = absurd has
track_present between t (Some (Still x)) has = refl
track_present between t (Some (Moving keys)) has = by_present between t keys (in_force t keys) has

pub scalar_present : (d : Doc) (p : Prop ℤ) (t : ℤ) → HasScalar d p → IsSome (scalar_value d p t)
unfolding scalar_value
scalar_present d p t has = track_present scalar_between t (track_of scalar_in d p) has

pub vector_present : (d : Doc) (p : Prop Point) (t : ℤ) → HasVector d p → IsSome (vector_value d p t)
unfolding vector_value
vector_present d p t has = track_present vector_between t (track_of vector_in d p) has

pub color_present : (d : Doc) (p : Prop Color) (t : ℤ) → HasColor d p → IsSome (color_value d p t)
unfolding color_value
color_present d p t has = track_present color_between t (track_of color_in d p) has

pub bezier_present : (d : Doc) (p : Prop Curve) (t : ℤ) → HasBezier d p → IsSome (bezier_value d p t)
unfolding bezier_value
bezier_present d p t has = track_present bezier_between t (track_of bezier_in d p) has

pub gradient_present : (d : Doc) (p : Prop Ramp) (t : ℤ) → HasGradient d p → IsSome (gradient_value d p t)
unfolding gradient_value
gradient_present d p t has = track_present gradient_between t (track_of gradient_in d p) has

-- Transforms.
point_present : (x y : Option ℤ) → IsSome x → IsSome y → IsSome (point_of x y)
point_present (Some x) (Some y) h k = refl
point_present (Some x) None h k = absurd (cc)
point_present None y h k = absurd (cc)

position_present : (d : Doc) (p : Position) (t : ℤ) → HasPosition d p → IsSome (position_value d p t)
unfolding position_value
position_present d (Whole p) t has = vector_present d p t has
position_present d (Split x y) t has =
    point_present (scalar_value d x t) (scalar_value d y t) (scalar_present d x t has.0) (scalar_present d y t has.1)

pub matrix_present : (d : Doc) (ks : Transform) (t : ℤ) → HasValues d ks → IsSome (own_matrix d ks t)
unfolding own_matrix
matrix_present d ks t has =
    then_present _ (vector_value d ks.a t) (vector_present d ks.a t has.anchor) (λ a.
    then_present _ (position_value d ks.p t) (position_present d ks.p t has.position) (λ p.
    then_present _ (vector_value d ks.s t) (vector_present d ks.s t has.scale) (λ s.
    then_present _ (scalar_value d ks.r t) (scalar_present d ks.r t has.rotation) (λ r.
    then_present _ (scalar_value d ks.sk t) (scalar_present d ks.sk t has.skew) (λ sk.
    map_present _ (scalar_value d ks.sa t) (scalar_present d ks.sa t has.axis))))))

pub opacity_present : (d : Doc) (p : Prop ℤ) (t : ℤ) → HasScalar d p → IsSome (opacity_value d p t)
unfolding opacity_value
opacity_present d p t has = map_present opacity_fraction (scalar_value d p t) (scalar_present d p t has)
