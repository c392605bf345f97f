-- Transforms, after the Lottie Specification 1.0, "Transform". That each member may be absent is this project's own.
use Rattle.std.specs.Prelude.{ℕ, ℤ, pos, ◌*◌, ◌^◌, List, codes}
use Rattle.lot_types.specs.declared.point.Point.{Point}
use Rattle.lot_types.specs.declared.prop.Prop.{Prop}
use Rattle.lot_types.specs.declared.prop.Prop.TheVariants.{Own}
use Rattle.lot_types.specs.declared.prop.Track.TheVariants.{Still}
use Rattle.lot_types.specs.declared.prop.Position.{Position}
use Rattle.lot_types.specs.declared.prop.Position.TheVariants.{Whole}
use Rattle.lot_types.specs.declared.slot.SlotKind.TheVariants as kind
use Rattle.lot_types.specs.declared.transform.Transform.{Transform}
use Rattle.lot_read.specs.declared.transform.Placement.{Placement}
use Rattle.lot_read.specs.declared.transform.Scalars.{Scalars}
use Rattle.lot_read.specs.Findings.{Reader, Row, good, ◌⊛◌}
use Rattle.lot_read.specs.Number.{scalar}
use Rattle.lot_read.specs.Position.{position}
use Rattle.lot_read.specs.Property.{property}
use Rattle.lot_read.specs.Rows.{optional, object}
use Rattle.lot_read.specs.SlotNames.{Names}
use Rattle.lot_read.specs.Vector.{vector}

-- A property with one value at all times.
abbrev pub constant : {T : Type 0} → T → Prop T
constant x = Own (Still x)

abbrev pub origin : Point
origin = record { x = pos 0; y = pos 0 }

-- 100 per cent, in millionths.
unfoldable pub hundred_per_cent : ℤ
hundred_per_cent = pos (100 * 10 ^ 6)

abbrev pub full_size : Point
full_size = record { x = hundred_per_cent; y = hundred_per_cent }

-- A property that has this value at all times where it is absent.
unfoldable pub vector_or : Point → Names → List ℕ → Row (Prop Point)
vector_or default names name at m = optional name (property kind.Vector names vector) (constant default) at m

unfoldable pub scalar_or : ℤ → Names → List ℕ → Row (Prop ℤ)
scalar_or default names name at m = optional name (property kind.Scalar names scalar) (constant default) at m

unfoldable pub position_or_origin : Names → List ℕ → Row Position
position_or_origin names name at m = optional name (position names) (Whole (constant origin)) at m

-- The anchor point, the position and the scale.
unfoldable pub placement_rows : Names → Row Placement
placement_rows names at m =
    good (λ a p s. record { a = a; p = p; s = s })
    ⊛ vector_or origin names (codes "a") at m
    ⊛ position_or_origin names (codes "p") at m
    ⊛ vector_or full_size names (codes "s") at m

-- The rotation, the opacity, and the angle and the axis of the skew.
unfoldable pub scalar_rows : Names → Row Scalars
scalar_rows names at m =
    good (λ r o sk sa. record { r = r; o = o; sk = sk; sa = sa })
    ⊛ scalar_or (pos 0) names (codes "r") at m
    ⊛ scalar_or hundred_per_cent names (codes "o") at m
    ⊛ scalar_or (pos 0) names (codes "sk") at m
    ⊛ scalar_or (pos 0) names (codes "sa") at m

abbrev pub transform_of : Placement → Scalars → Transform
transform_of place scalars =
    record { a = place.a; p = place.p; s = place.s; r = scalars.r; o = scalars.o; sk = scalars.sk; sa = scalars.sa }

-- The members of a transform. Without any of them it is the identity.
unfoldable pub transform_rows : Names → Row Transform
transform_rows names at m =
    good (λ place scalars. transform_of place scalars) ⊛ placement_rows names at m ⊛ scalar_rows names at m

-- A transform.
abbrev pub transform : Names → Reader Transform
transform names = object (transform_rows names)
