-- Where there are no slots, each property of a transform is its own, and so has a value in any document.
use Rattle.std.proofs.Common.{ℕ, ℤ, pos, false, List, [], Option, Some, None, codes}
use Rattle.std.specs.Bool.{⊤}
use Rattle.std.specs.Option.{IfSome}
use Rattle.lot_types.specs.declared.doc.Doc.{Doc}
use Rattle.lot_types.specs.declared.fault.FaultCode.TheVariants.{Kind}
use Rattle.lot_types.specs.declared.point.Point.{Point}
use Rattle.lot_types.specs.declared.prop.Prop.{Prop}
use Rattle.lot_types.specs.declared.prop.Prop.TheVariants.{Own}
use Rattle.lot_types.specs.declared.prop.Track.{Track}
use Rattle.lot_types.specs.declared.prop.Position.{Position}
use Rattle.lot_types.specs.declared.prop.Position.TheVariants.{Whole, Split}
use Rattle.lot_types.specs.declared.slot.SlotKind.{SlotKind}
use Rattle.lot_types.specs.declared.slot.SlotKind.TheVariants as slot_kind
use Rattle.lot_types.specs.declared.transform.Transform.{Transform}
use Rattle.lot_types.specs.Slots.{HasScalar, HasVector, HasPosition, HasValues}
use Rattle.lot_json.specs.declared.tree.json.Json.{out-Json}
use Rattle.lot_json.specs.declared.tree.json.Json.TheOpen as tree
use Rattle.lot_json.specs.declared.tree.pointer.Step.{Step}
use Rattle.lot_read.specs.declared.slot_name.SlotName.{SlotName}
use Rattle.lot_read.specs.declared.slot_name.SlotName.TheVariants.{Unnamed, Unknown, Known}
use Rattle.lot_read.specs.declared.track.Absence.TheVariants.{Missing, NoValue}
use Rattle.lot_read.specs.Findings.{Findings, Reader, Row, Pairs, good, bad}
use Rattle.lot_read.specs.Flag.{flag}
use Rattle.lot_read.specs.Number.{scalar}
use Rattle.lot_read.specs.Position.{position_rows, coordinate_rows, whole_rows, by_split, splits}
use Rattle.lot_read.specs.Property.{no_expression, slot_found, slot_name, own, by_name, property_rows, property}
use Rattle.lot_read.specs.Rows.{optional}
use Rattle.lot_read.specs.SlotNames.{place_of}
use Rattle.lot_read.specs.Transform.{constant, origin, hundred_per_cent, full_size, vector_or, scalar_or, position_or_origin, placement_rows, scalar_rows, transform_rows, transform}
use Rattle.lot_read.specs.Vector.{vector}
use Rattle.lot_doc.proofs.OnlyTracks.{TrackHasValue, still_has_value, track_only}
use Rattle.lot_doc.proofs.Only.{GivesOnly, ReadsOnly, RowsGiveOnly, anything, good_only, bad_only, if_only, row_only, any_row_only, on_only, needed_only, optional_only, object_only}

-- No slot is named.
abbrev IsNoSlot : SlotName → Type 0
IsNoSlot Unnamed = ⊤
IsNoSlot Unknown = ⊤
IsNoSlot (Known slot) = ⊥

slot_name_only : ReadsOnly IsNoSlot (slot_name [])
unfolding slot_name
slot_name_only at j =
    elim (out-Json j) as (λ v. let found : Findings SlotName = elim v [ tree.Text t ↦ good (slot_found (place_of t [])) | _ ↦ bad Kind at ] in GivesOnly IsNoSlot found) [
      | tree.Text t ↦ good_only (slot_found (place_of t [])) tt
      | _ ↦ bad_only Kind at
    ]

-- A property of which P holds wherever it is a property's own track.
own_only : {T : Type 0} (P : Prop T → Type 0) {found : Findings (Track T)} → GivesOnly TrackHasValue found
    → ((t : Track T) → TrackHasValue t → P (Own t)) → GivesOnly P (own found)
own_only {T} P has owns = row_only has (good_only (λ (t : Track T). Own t) owns)

by_name_only : {T : Type 0} (P : Prop T → Type 0) (kind : SlotKind) (value : Reader T) → ((t : Track T) → TrackHasValue t → P (Own t))
    → (at : List Step) (m : Pairs) (name : Option SlotName) → IfSome name IsNoSlot → GivesOnly P (by_name kind value at m name)
by_name_only P kind value owns at m (Some (Known slot)) none = absurd none
by_name_only P kind value owns at m (Some Unknown) none = own_only P (track_only kind value NoValue at m) owns
by_name_only P kind value owns at m (Some Unnamed) none = own_only P (track_only kind value Missing at m) owns
by_name_only P kind value owns at m None none = own_only P (track_only kind value Missing at m) owns

pub property_rows_only : {T : Type 0} (P : Prop T → Type 0) (kind : SlotKind) (value : Reader T)
    → ((t : Track T) → TrackHasValue t → P (Own t)) → RowsGiveOnly P (property_rows kind [] value)
unfolding property_rows
property_rows_only {T} P kind value owns at m =
    row_only
    (on_only (by_name kind value at m) (optional_only (codes "sid") Unnamed tt slot_name_only at m) (by_name_only P kind value owns at m))
    (any_row_only (optional (codes "x") no_expression tt at m) (good_only (λ (_ : Unit {0}) (p : Prop T). p) (λ _ p h. h)))

-- It has a value in any document.
abbrev pub EverScalar : Prop ℤ → Type 0
EverScalar p = (d : Doc) → HasScalar d p

abbrev pub EverVector : Prop Point → Type 0
EverVector p = (d : Doc) → HasVector d p

abbrev EverPosition : Position → Type 0
EverPosition p = (d : Doc) → HasPosition d p

pub own_scalar : (t : Track ℤ) → TrackHasValue t → EverScalar (Own t)
own_scalar t has d = has

pub own_vector : (t : Track Point) → TrackHasValue t → EverVector (Own t)
own_vector t has d = has

scalar_only : ReadsOnly EverScalar (property slot_kind.Scalar [] scalar)
scalar_only = object_only (property_rows_only EverScalar slot_kind.Scalar scalar own_scalar)

vector_only : ReadsOnly EverVector (property slot_kind.Vector [] vector)
vector_only = object_only (property_rows_only EverVector slot_kind.Vector vector own_vector)

-- Positions.
coordinate_rows_only : RowsGiveOnly EverPosition (coordinate_rows [])
unfolding coordinate_rows
coordinate_rows_only at m =
    row_only (needed_only (codes "y") scalar_only at m)
    (row_only (needed_only (codes "x") scalar_only at m)
    (good_only (λ (x y : Prop ℤ). Split x y) (λ x ever_x y ever_y d. (ever_x d, ever_y d))))

whole_rows_only : RowsGiveOnly EverPosition (whole_rows [])
unfolding whole_rows
whole_rows_only at m =
    row_only (property_rows_only EverVector slot_kind.Vector vector own_vector at m)
    (good_only (λ (p : Prop Point). Whole p) (λ p ever. ever))

position_rows_only : RowsGiveOnly EverPosition (position_rows [])
unfolding position_rows
position_rows_only at m =
    on_only (by_split [] at m) (anything (optional (codes "s") flag false at m))
    (λ s _. if_only (splits s) (λ _. coordinate_rows_only at m) (λ _. whole_rows_only at m))

-- Transforms.
vector_or_only : (default : Point) (name : List ℕ) → RowsGiveOnly EverVector (vector_or default [] name)
unfolding vector_or
vector_or_only default name at m = optional_only name (constant default) (λ d. still_has_value default) vector_only at m

pub scalar_or_only : (default : ℤ) (name : List ℕ) → RowsGiveOnly EverScalar (scalar_or default [] name)
unfolding scalar_or
scalar_or_only default name at m = optional_only name (constant default) (λ d. still_has_value default) scalar_only at m

position_or_origin_only : (name : List ℕ) → RowsGiveOnly EverPosition (position_or_origin [] name)
unfolding position_or_origin
position_or_origin_only name at m = optional_only name (Whole (constant origin)) (λ d. still_has_value origin) (object_only position_rows_only) at m

abbrev RowsHave : {A : Type 0} → Row A → (A → Type 0) → Type 0
RowsHave row P = RowsGiveOnly P row

placement_rows_only : RowsHave (placement_rows []) (λ place. EverVector place.a × EverPosition place.p × EverVector place.s)
unfolding placement_rows
placement_rows_only at m =
    row_only (vector_or_only full_size (codes "s") at m)
    (row_only (position_or_origin_only (codes "p") at m)
    (row_only (vector_or_only origin (codes "a") at m)
    (good_only _ (λ a ever_a p ever_p s ever_s. (ever_a, ever_p, ever_s)))))

scalar_rows_only : RowsHave (scalar_rows []) (λ scalars. EverScalar scalars.r × EverScalar scalars.o × EverScalar scalars.sk × EverScalar scalars.sa)
unfolding scalar_rows
scalar_rows_only at m =
    row_only (scalar_or_only (pos 0) (codes "sa") at m)
    (row_only (scalar_or_only (pos 0) (codes "sk") at m)
    (row_only (scalar_or_only hundred_per_cent (codes "o") at m)
    (row_only (scalar_or_only (pos 0) (codes "r") at m)
    (good_only _ (λ r ever_r o ever_o sk ever_sk sa ever_sa. (ever_r, ever_o, ever_sk, ever_sa))))))

-- All properties of the transform have values in any document.
abbrev pub EverValues : Transform → Type 0
EverValues ks = (d : Doc) → HasValues d ks

pub transform_rows_only : RowsGiveOnly EverValues (transform_rows [])
unfolding transform_rows
transform_rows_only at m =
    row_only (scalar_rows_only at m)
    (row_only (placement_rows_only at m)
    (good_only _ (λ place placed scalars ever d. record {
      anchor = placed.0 d;
      position = placed.1 d;
      scale = placed.2 d;
      rotation = ever.0 d;
      opacity = ever.1 d;
      skew = ever.2 d;
      axis = ever.3 d;
    })))

pub transform_only : ReadsOnly EverValues (transform [])
transform_only = object_only transform_rows_only
