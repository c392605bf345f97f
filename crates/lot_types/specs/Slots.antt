-- The track of a property: its own, or that of its slot. A property whose slot is not there or is of another kind has
-- none.
use Rattle.std.specs.Prelude.{ℤ, ◌<◌, Option, Some, None, length, slice_get}
use Rattle.lot_types.specs.declared.point.Point.{Point}
use Rattle.lot_types.specs.declared.color.Color.{Color}
use Rattle.lot_types.specs.declared.prop.Track.{Track}
use Rattle.lot_types.specs.declared.prop.Track.TheVariants.{Still, Moving}
use Rattle.lot_types.specs.declared.prop.Position.{Position}
use Rattle.lot_types.specs.declared.prop.Position.TheVariants.{Whole, Split}
use Rattle.lot_types.specs.declared.prop.Prop.{Prop}
use Rattle.lot_types.specs.declared.prop.Prop.TheVariants.{Own, Slot}
use Rattle.lot_types.specs.declared.slot.Slot.{Slot as TheSlot}
use Rattle.lot_types.specs.declared.slot.SlotValue.{SlotValue}
use Rattle.lot_types.specs.declared.slot.SlotValue.TheVariants as slot
use Rattle.lot_types.specs.declared.transform.Transform.{Transform}
use Rattle.lot_types.specs.declared.doc.Doc.{Doc}
use Rattle.lot_types.specs.Curve.{Curve}
use Rattle.lot_types.specs.Ramp.{Ramp}

abbrev pub scalar_in : SlotValue → Option (Track ℤ)
scalar_in slot.Unused = None
scalar_in (slot.Scalar track) = Some track
scalar_in (slot.Vector track) = None
scalar_in (slot.Color track) = None
scalar_in (slot.Bezier track) = None
scalar_in (slot.Gradient track) = None

abbrev pub vector_in : SlotValue → Option (Track Point)
vector_in slot.Unused = None
vector_in (slot.Scalar track) = None
vector_in (slot.Vector track) = Some track
vector_in (slot.Color track) = None
vector_in (slot.Bezier track) = None
vector_in (slot.Gradient track) = None

abbrev pub color_in : SlotValue → Option (Track Color)
color_in slot.Unused = None
color_in (slot.Scalar track) = None
color_in (slot.Vector track) = None
color_in (slot.Color track) = Some track
color_in (slot.Bezier track) = None
color_in (slot.Gradient track) = None

abbrev pub bezier_in : SlotValue → Option (Track Curve)
bezier_in slot.Unused = None
bezier_in (slot.Scalar track) = None
bezier_in (slot.Vector track) = None
bezier_in (slot.Color track) = None
bezier_in (slot.Bezier track) = Some track
bezier_in (slot.Gradient track) = None

abbrev pub gradient_in : SlotValue → Option (Track Ramp)
gradient_in slot.Unused = None
gradient_in (slot.Scalar track) = None
gradient_in (slot.Vector track) = None
gradient_in (slot.Color track) = None
gradient_in (slot.Bezier track) = None
gradient_in (slot.Gradient track) = Some track

-- The track that a slot's value has of a kind.
abbrev pub of_slot : {A : Type 0} → (SlotValue → Option (Track A)) → Option TheSlot → Option (Track A)
of_slot track_in None = None
of_slot track_in (Some found) = track_in found.value

abbrev pub track_of : {A : Type 0} → (SlotValue → Option (Track A)) → Doc → Prop A → Option (Track A)
track_of track_in d (Own track) = Some track
track_of track_in d (Slot s) = of_slot track_in (slice_get d.slots s)

-- The track is there, and it has a keyframe where it moves.
unfoldable pub HasValue : {A : Type 0} → Option (Track A) → Type 0
HasValue None = ⊥
HasValue (Some (Still x)) = Unit {0}
HasValue (Some (Moving keys)) = 0 < length keys

-- The property has a value in the document at every time: the slot that it names is there and has its kind, if it names
-- one, and there is a keyframe where it moves.
abbrev pub HasScalar : Doc → Prop ℤ → Type 0
HasScalar d p = HasValue (track_of scalar_in d p)

abbrev pub HasVector : Doc → Prop Point → Type 0
HasVector d p = HasValue (track_of vector_in d p)

abbrev pub HasColor : Doc → Prop Color → Type 0
HasColor d p = HasValue (track_of color_in d p)

abbrev pub HasBezier : Doc → Prop Curve → Type 0
HasBezier d p = HasValue (track_of bezier_in d p)

abbrev pub HasGradient : Doc → Prop Ramp → Type 0
HasGradient d p = HasValue (track_of gradient_in d p)

abbrev pub HasPosition : Doc → Position → Type 0
HasPosition d (Whole p) = HasVector d p
HasPosition d (Split x y) = HasScalar d x × HasScalar d y

-- So it is of each property of a transform.
pub record HasValues (d : Doc) (ks : Transform) : Type 0 where
  pub anchor : HasVector d ks.a
  pub position : HasPosition d ks.p
  pub scale : HasVector d ks.s
  pub rotation : HasScalar d ks.r
  pub opacity : HasScalar d ks.o
  pub skew : HasScalar d ks.sk
  pub axis : HasScalar d ks.sa
