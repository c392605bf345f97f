-- A position and a transform have a value where they have no fault.
use Rattle.std.proofs.Common.{ℕ, ℤ, pos, Bool, false, Option, List}
use Rattle.std.specs.Prelude.{codes}
use Rattle.lot_types.specs.declared.slot.SlotKind.TheVariants as slot_kind
use Rattle.lot_types.specs.declared.prop.Prop.{Prop}
use Rattle.lot_types.specs.declared.prop.Position.TheVariants.{Whole, Split}
use Rattle.lot_types.specs.declared.point.Point.{Point}
use Rattle.lot_json.specs.declared.tree.pointer.Step.{Step}
use Rattle.lot_read.specs.Findings.{Pairs}
use Rattle.lot_read.specs.Position.{position, position_rows, coordinate_rows, whole_rows, by_split, splits}
use Rattle.lot_read.specs.SlotNames.{Names}
use Rattle.lot_read.specs.Sound.{IsSound, ReadsSoundly, RowsAreSound}
use Rattle.lot_read.specs.Transform.{constant, origin, hundred_per_cent, full_size, vector_or, scalar_or, position_or_origin, placement_rows, scalar_rows, transform_rows, transform}
use Rattle.lot_read.proofs.Sound.{good_sound, if_sound, row_sound, on_sound, needed_sound, optional_sound, object_sound}
use Rattle.lot_read.proofs.SoundValues.{flag_sound, scalar_sound, vector_sound, property_sound, property_rows_sound}

coordinate_rows_sound : (names : Names) → RowsAreSound (coordinate_rows names)
unfolding coordinate_rows
coordinate_rows_sound names at m =
    row_sound
    (row_sound (good_sound (λ (x y : Prop ℤ). Split x y)) (needed_sound (codes "x") (property_sound slot_kind.Scalar names scalar_sound) at m))
    (needed_sound (codes "y") (property_sound slot_kind.Scalar names scalar_sound) at m)

whole_rows_sound : (names : Names) → RowsAreSound (whole_rows names)
unfolding whole_rows
whole_rows_sound names at m = row_sound (good_sound (λ (p : Prop Point). Whole p)) (property_rows_sound slot_kind.Vector names vector_sound at m)

by_split_sound : (names : Names) (at : List Step) (m : Pairs) (s : Option Bool) → IsSound (by_split names at m s)
by_split_sound names at m s = if_sound (splits s) (coordinate_rows_sound names at m) (whole_rows_sound names at m)

pub position_rows_sound : (names : Names) → RowsAreSound (position_rows names)
unfolding position_rows
position_rows_sound names at m =
    on_sound (by_split names at m) (optional_sound (codes "s") false flag_sound at m) (by_split_sound names at m)

pub position_sound : (names : Names) → ReadsSoundly (position names)
position_sound names = object_sound (position_rows_sound names)

vector_or_sound : (default : Point) (names : Names) (name : List ℕ) → RowsAreSound (vector_or default names name)
unfolding vector_or
vector_or_sound default names name at m = optional_sound name (constant default) (property_sound slot_kind.Vector names vector_sound) at m

pub scalar_or_sound : (default : ℤ) (names : Names) (name : List ℕ) → RowsAreSound (scalar_or default names name)
unfolding scalar_or
scalar_or_sound default names name at m = optional_sound name (constant default) (property_sound slot_kind.Scalar names scalar_sound) at m

position_or_origin_sound : (names : Names) (name : List ℕ) → RowsAreSound (position_or_origin names name)
unfolding position_or_origin
position_or_origin_sound names name at m = optional_sound name (Whole (constant origin)) (position_sound names) at m

placement_rows_sound : (names : Names) → RowsAreSound (placement_rows names)
unfolding placement_rows
placement_rows_sound names at m =
    row_sound (row_sound (row_sound (good_sound _)
    (vector_or_sound origin names (codes "a") at m))
    (position_or_origin_sound names (codes "p") at m))
    (vector_or_sound full_size names (codes "s") at m)

scalar_rows_sound : (names : Names) → RowsAreSound (scalar_rows names)
unfolding scalar_rows
scalar_rows_sound names at m =
    row_sound (row_sound (row_sound (row_sound (good_sound _)
    (scalar_or_sound (pos 0) names (codes "r") at m))
    (scalar_or_sound hundred_per_cent names (codes "o") at m))
    (scalar_or_sound (pos 0) names (codes "sk") at m))
    (scalar_or_sound (pos 0) names (codes "sa") at m)

pub transform_rows_sound : (names : Names) → RowsAreSound (transform_rows names)
unfolding transform_rows
transform_rows_sound names at m =
    row_sound (row_sound (good_sound _) (placement_rows_sound names at m)) (scalar_rows_sound names at m)

pub transform_sound : (names : Names) → ReadsSoundly (transform names)
transform_sound names = object_sound (transform_rows_sound names)
