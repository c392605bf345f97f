-- The styles of shape layers that have a gradient: the tables of their members. The members are those of the Lottie
-- Specification 1.0, "Base Gradient", "Gradient Fill" and "Gradient Stroke"; their defaults, and the order of their
-- faults, are this project's own.
use Rattle.std.specs.Prelude.{ℕ, pos, codes}
use Rattle.lot_types.specs.declared.item.Item.{Item}
use Rattle.lot_types.specs.declared.item.Item.TheVariants.{GradientFill, GradientStroke}
use Rattle.lot_types.specs.declared.slot.SlotKind.TheVariants as kind
use Rattle.lot_types.specs.declared.stops.Stops.{Stops}
use Rattle.lot_read.specs.Findings.{Row, good, ◌⊛◌, ◌then◌}
use Rattle.lot_read.specs.Gradient.{gradient}
use Rattle.lot_read.specs.PropertyRows.{needed_property}
use Rattle.lot_read.specs.Rows.{needed, optional, object}
use Rattle.lot_read.specs.SlotNames.{Names}
use Rattle.lot_read.specs.Transform.{scalar_or, hundred_per_cent}
use Rattle.lot_read.specs.Vector.{vector}
use Rattle.lot_read.specs.Whole.{whole}
use Rattle.lot_doc.specs.declared.gradient.BaseGradient.{BaseGradient}
use Rattle.lot_doc.specs.declared.gradient.Focus.{Focus}
use Rattle.lot_doc.specs.declared.gradient.Geometry.{Geometry}
use Rattle.lot_doc.specs.ItemHead.{head_rows}
use Rattle.lot_doc.specs.Style.{fill_rule, line_rows}

-- The greatest number of stops.
abbrev pub max_stops : ℕ
max_stops = 1024

-- The colors of p stops.
unfoldable pub colors_rows : Names → ℕ → Row Stops
colors_rows names p at m =
    good (λ k. record { p = p; k = k })
    ⊛ needed_property (kind.Gradient p) (gradient p) names (codes "k") at m

-- The stops. After a fault of their number the colors are not read.
unfoldable pub stops_rows : Names → Row Stops
stops_rows names at m = needed (codes "p") (whole 1 max_stops) at m then λ p. colors_rows names p at m

unfoldable pub needed_stops : Names → Row Stops
needed_stops names at m = needed (codes "g") (object (stops_rows names)) at m

-- The points between which a gradient lies, and its kind: 1 linear, 2 radial.
unfoldable pub geometry_rows : Names → Row Geometry
geometry_rows names at m =
    good (λ s e t. record { s = s; e = e; t = t })
    ⊛ needed_property kind.Vector vector names (codes "s") at m
    ⊛ needed_property kind.Vector vector names (codes "e") at m
    ⊛ optional (codes "t") (whole 1 2) 1 at m

-- The distance of the focus of a radial gradient, and its angle.
unfoldable pub focus_rows : Names → Row Focus
focus_rows names at m =
    good (λ h a. record { h = h; a = a })
    ⊛ scalar_or (pos 0) names (codes "h") at m
    ⊛ scalar_or (pos 0) names (codes "a") at m

-- The members that all gradients have.
unfoldable pub base_gradient_rows : Names → Row BaseGradient
base_gradient_rows names at m =
    good (λ o geometry g focus.
    record { o = o; s = geometry.s; e = geometry.e; t = geometry.t; g = g; h = focus.h; a = focus.a })
    ⊛ scalar_or hundred_per_cent names (codes "o") at m
    ⊛ geometry_rows names at m
    ⊛ needed_stops names at m
    ⊛ focus_rows names at m

unfoldable pub gradient_fill_rows : Names → Row Item
gradient_fill_rows names at m =
    good (λ hidden b r. GradientFill hidden b.o b.s b.e b.t b.g b.h b.a r)
    ⊛ head_rows at m
    ⊛ base_gradient_rows names at m
    ⊛ fill_rule at m

unfoldable pub gradient_stroke_rows : Names → Row Item
gradient_stroke_rows names at m =
    good (λ hidden b line. GradientStroke hidden b.o b.s b.e b.t b.g b.h b.a line.w line.lc line.lj line.ml line.d)
    ⊛ head_rows at m
    ⊛ base_gradient_rows names at m
    ⊛ line_rows names at m
