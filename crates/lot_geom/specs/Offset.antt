-- Points and offsets. That coordinates are limited is this project's own.
use Rattle.std.specs.Prelude.{pos, neg_ℤ, ◌+ℤ◌}
use Rattle.lot_num.specs.Round.{limit}
use Rattle.lot_types.specs.declared.point.Point.{Point}

abbrev pub no_offset : Point
no_offset = record { x = pos 0; y = pos 0 }

-- The point at an offset from p.
abbrev pub moved : Point → Point → Point
moved p by = record { x = limit (p.x +ℤ by.x); y = limit (p.y +ℤ by.y) }

abbrev pub opposite : Point → Point
opposite p = record { x = neg_ℤ p.x; y = neg_ℤ p.y }
