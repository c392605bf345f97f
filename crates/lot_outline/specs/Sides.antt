-- The sides of a box along the axes, each limited. The y axis points down.
use Rattle.std.specs.Prelude.{ℤ}
use Rattle.lot_types.specs.declared.point.Point.{Point}
use Rattle.lot_outline.specs.declared.sides.Sides.{Sides}
use Rattle.lot_outline.specs.Number.{plus, minus}

-- Those at the distances rx and ry from a center.
abbrev pub sides_around : Point → ℤ → ℤ → Sides
sides_around center rx ry = record {
  left = minus center.x rx;
  right = plus center.x rx;
  top = minus center.y ry;
  bottom = plus center.y ry;
}

-- Each moved inwards.
abbrev pub inset : Sides → ℤ → Sides
inset sides by = record {
  left = plus sides.left by;
  right = minus sides.right by;
  top = plus sides.top by;
  bottom = minus sides.bottom by;
}
