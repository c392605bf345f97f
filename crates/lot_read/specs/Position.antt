-- Positions, after the Lottie Specification 1.0, "Split Position".
use Rattle.std.specs.Prelude.{Bool, false, List, Option, Some, None, codes, if◌then◌else◌}
use Rattle.lot_types.specs.declared.slot.SlotKind.TheVariants as kind
use Rattle.lot_types.specs.declared.prop.Position.{Position}
use Rattle.lot_types.specs.declared.prop.Position.TheVariants.{Whole, Split}
use Rattle.lot_json.specs.declared.tree.pointer.Step.{Step}
use Rattle.lot_read.specs.Findings.{Findings, Reader, Row, Pairs, good, ◌⊛◌, ◌on◌}
use Rattle.lot_read.specs.Flag.{flag}
use Rattle.lot_read.specs.Number.{scalar}
use Rattle.lot_read.specs.Property.{property, property_rows}
use Rattle.lot_read.specs.Rows.{needed, optional, object}
use Rattle.lot_read.specs.SlotNames.{Names}
use Rattle.lot_read.specs.Vector.{vector}

-- A position has a property for each coordinate where its flag is true. It is one property where the flag is absent,
-- false or has a fault.
abbrev pub splits : Option Bool → Bool
splits (Some b) = b
splits None = false

-- A property for each coordinate.
unfoldable pub coordinate_rows : Names → Row Position
coordinate_rows names at m =
    good (λ x y. Split x y)
    ⊛ needed (codes "x") (property kind.Scalar names scalar) at m
    ⊛ needed (codes "y") (property kind.Scalar names scalar) at m

-- One property for both.
unfoldable pub whole_rows : Names → Row Position
whole_rows names at m = good (λ p. Whole p) ⊛ property_rows kind.Vector names vector at m

abbrev pub by_split : Names → List Step → Pairs → Option Bool → Findings Position
by_split names at m s = if splits s then coordinate_rows names at m else whole_rows names at m

unfoldable pub position_rows : Names → Row Position
position_rows names at m = optional (codes "s") flag false at m on by_split names at m

-- A position.
abbrev pub position : Names → Reader Position
position names = object (position_rows names)
