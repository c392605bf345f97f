-- The shapes of shape layers: the tables of their members. The members are those of the Lottie Specification 1.0,
-- "Rectangle", "Ellipse", "PolyStar" and "Path"; the order of their faults is this project's own.
use Rattle.std.specs.Prelude.{ℕ, ℤ, pos, ◌==◌, Option, Some, None, codes, if◌then◌else◌}
use Rattle.lot_types.specs.declared.item.Item.{Item}
use Rattle.lot_types.specs.declared.item.Item.TheVariants.{Rect, Ellipse, Star, Path}
use Rattle.lot_types.specs.declared.prop.Prop.{Prop}
use Rattle.lot_types.specs.declared.slot.SlotKind.TheVariants as kind
use Rattle.lot_read.specs.Bezier.{bezier}
use Rattle.lot_read.specs.Findings.{Row, good, ◌⊛◌}
use Rattle.lot_read.specs.Number.{any, number, scalar}
use Rattle.lot_read.specs.PropertyRows.{needed_property}
use Rattle.lot_read.specs.Rows.{needed, maybe}
use Rattle.lot_read.specs.SlotNames.{Names}
use Rattle.lot_read.specs.Transform.{scalar_or}
use Rattle.lot_read.specs.Vector.{vector}
use Rattle.lot_read.specs.Whole.{whole}
use Rattle.lot_doc.specs.declared.polystar.Radii.{Radii}
use Rattle.lot_doc.specs.declared.polystar.Spokes.{Spokes}
use Rattle.lot_doc.specs.ItemHead.{head_rows}

unfoldable pub rectangle_rows : Names → Row Item
rectangle_rows names at m =
    good (λ hidden p s r d. Rect hidden p s r d)
    ⊛ head_rows at m
    ⊛ needed_property kind.Vector vector names (codes "p") at m
    ⊛ needed_property kind.Vector vector names (codes "s") at m
    ⊛ scalar_or (pos 0) names (codes "r") at m
    ⊛ maybe (codes "d") (number any) at m

unfoldable pub ellipse_rows : Names → Row Item
ellipse_rows names at m =
    good (λ hidden p s d. Ellipse hidden p s d)
    ⊛ head_rows at m
    ⊛ needed_property kind.Vector vector names (codes "p") at m
    ⊛ needed_property kind.Vector vector names (codes "s") at m
    ⊛ maybe (codes "d") (number any) at m

-- How many points a polystar has, and where they are.
unfoldable pub spokes_rows : Names → Row Spokes
spokes_rows names at m =
    good (λ pt p r. record { pt = pt; p = p; r = r })
    ⊛ needed_property kind.Scalar scalar names (codes "pt") at m
    ⊛ needed_property kind.Vector vector names (codes "p") at m
    ⊛ scalar_or (pos 0) names (codes "r") at m

-- The inner radius, which a star has to have. The kind is known where it has no fault.
abbrev pub inner_radius : Names → Option ℕ → Row (Prop ℤ)
inner_radius names (Some sy) at m =
    if sy == 1 then needed_property kind.Scalar scalar names (codes "ir") at m
    else scalar_or (pos 0) names (codes "ir") at m
inner_radius names None at m = scalar_or (pos 0) names (codes "ir") at m

-- The radii and roundnesses of a polystar of this kind: 1 is a star, 2 a polygon.
unfoldable pub radii_rows : Names → Option ℕ → Row Radii
radii_rows names sy at m =
    good (λ or_ os ir is_. record { or_ = or_; os = os; ir = ir; is_ = is_ })
    ⊛ needed_property kind.Scalar scalar names (codes "or") at m
    ⊛ scalar_or (pos 0) names (codes "os") at m
    ⊛ inner_radius names sy at m
    ⊛ scalar_or (pos 0) names (codes "is") at m

abbrev pub star_kind : Row ℕ
star_kind at m = needed (codes "sy") (whole 1 2) at m

unfoldable pub polystar_rows : Names → Row Item
polystar_rows names at m =
    good (λ hidden sy spokes radii d.
    Star hidden sy spokes.pt spokes.p spokes.r radii.or_ radii.os radii.ir radii.is_ d)
    ⊛ head_rows at m
    ⊛ star_kind at m
    ⊛ spokes_rows names at m
    ⊛ radii_rows names (star_kind at m).value at m
    ⊛ maybe (codes "d") (number any) at m

unfoldable pub path_rows : Names → Row Item
path_rows names at m =
    good (λ hidden ks d. Path hidden ks d)
    ⊛ head_rows at m
    ⊛ needed_property kind.Bezier bezier names (codes "ks") at m
    ⊛ maybe (codes "d") (number any) at m
