-- The bytes of colors. Their rounding is this project's own.
use Rattle.std.specs.Prelude.{ℕ, ℤ, pos, ◌^◌, ◌*ℤ◌, int_lt, unsigned_abs, if◌then◌else◌}
use Rattle.lot_num.specs.Round.{rnd}
use Rattle.lot_types.specs.declared.color.Color.{Color}
use Rattle.lot_types.specs.declared.rgb.Rgb.{Rgb}

-- The number from 0 to 1 that is nearest to a component of a color, in millionths.
abbrev pub component_in_range : ℤ → ℤ
component_in_range v = if int_lt v (pos 0) then pos 0 else (if int_lt (pos (10 ^ 6)) v then pos (10 ^ 6) else v)

-- A component as a byte, where 255 is 1. It is never negative.
abbrev pub color_byte : ℤ → ℕ
color_byte v = unsigned_abs (rnd (component_in_range v *ℤ pos 255) (pos (10 ^ 6)))

abbrev pub rgb_of : Color → Rgb
rgb_of color = record { r = color_byte color.r; g = color_byte color.g; b = color_byte color.b }
