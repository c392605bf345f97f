-- The opacity of a style within its groups, as a fraction in millionths. The rounding of each product is this project's
-- own.
use Rattle.std.specs.Prelude.{ℤ, List, fold, Option, option_map}
use Rattle.lot_num.specs.Round.{product}
use Rattle.lot_prop.specs.Transform.{opacity_value}
use Rattle.lot_types.specs.declared.doc.Doc.{Doc}
use Rattle.lot_types.specs.declared.prop.Prop.{Prop}

-- An opacity times that of each group that it is in, one after the other.
abbrev pub within_groups : List ℤ → ℤ → ℤ
within_groups groups opacity = fold product opacity groups

-- The opacity o of a style at a time, within groups from the innermost outwards.
abbrev pub style_opacity : Doc → Prop ℤ → ℤ → List ℤ → Option ℤ
style_opacity d o t groups = option_map (within_groups groups) (opacity_value d o t)
