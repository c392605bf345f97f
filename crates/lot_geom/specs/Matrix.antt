-- Affine maps of the plane, after SVG 1.1, "The transform attribute", and the Lottie Specification 1.0, "Transform".
-- The y axis points down. The rounding, the limits and the sense of the skew are this project's own: the result of each
-- formula is limited once.
use Rattle.std.specs.Prelude.{ℤ, pos, neg_ℤ, ◌^◌, ◌+ℤ◌, ◌*ℤ◌, Bool, ◌&&◌, if◌then◌else◌}
use Rattle.std.specs.Ordering.{int_eq}
use Rattle.lot_num.specs.Round.{rnd, limit}
use Rattle.lot_num.specs.Angle.{sine, cosine, tangent}
use Rattle.lot_types.specs.declared.matrix.Matrix.{Matrix}
use Rattle.lot_types.specs.declared.point.Point.{Point}
use Rattle.lot_geom.specs.Offset.{opposite}

-- One, in millionths.
abbrev pub one_whole : ℤ
one_whole = pos (10 ^ 6)

-- The sum of two products of millionths, rounded.
abbrev pub sum_of_products : ℤ → ℤ → ℤ → ℤ → ℤ
sum_of_products x y u v = rnd (x *ℤ y +ℤ u *ℤ v) one_whole

-- The map m, and then the map n.
unfoldable pub matrix_product : Matrix → Matrix → Matrix
matrix_product m n = record {
  a = limit (sum_of_products m.a n.a m.b n.c);
  b = limit (sum_of_products m.a n.b m.b n.d);
  c = limit (sum_of_products m.c n.a m.d n.c);
  d = limit (sum_of_products m.c n.b m.d n.d);
  e = limit (sum_of_products m.e n.a m.f n.c +ℤ n.e);
  f = limit (sum_of_products m.e n.b m.f n.d +ℤ n.f);
}

-- The point to which a map takes p.
unfoldable pub mapped : Matrix → Point → Point
mapped m p = record {
  x = limit (sum_of_products p.x m.a p.y m.c +ℤ m.e);
  y = limit (sum_of_products p.x m.b p.y m.d +ℤ m.f);
}

abbrev pub identity : Matrix
identity = record { a = one_whole; b = pos 0; c = pos 0; d = one_whole; e = pos 0; f = pos 0 }

-- The map that moves each point by an offset.
abbrev pub translation : Point → Matrix
translation by = record { a = one_whole; b = pos 0; c = pos 0; d = one_whole; e = by.x; f = by.y }

-- Whether a map moves each point by an offset.
abbrev pub is_translation : Matrix → Bool
is_translation m = int_eq m.a one_whole && int_eq m.b (pos 0) && int_eq m.c (pos 0) && int_eq m.d one_whole

-- The map that scales by per cents, in millionths.
abbrev pub scaling : Point → Matrix
scaling s = record { a = rnd s.x (pos 100); b = pos 0; c = pos 0; d = rnd s.y (pos 100); e = pos 0; f = pos 0 }

-- The map that turns by an angle in millionths of a degree, clockwise where that is positive.
abbrev pub rotation : ℤ → Matrix
rotation r = record { a = cosine r; b = sine r; c = neg_ℤ (sine r); d = cosine r; e = pos 0; f = pos 0 }

-- The map that moves points along the x axis, by their distance below it times the tangent of the angle, to the left
-- where that is positive.
abbrev pub shear : ℤ → Matrix
shear sk = record { a = one_whole; b = pos 0; c = neg_ℤ (tangent sk); d = one_whole; e = pos 0; f = pos 0 }

-- The map m, and then the skew by the angle sk along the axis sa. Without an angle there is none.
abbrev pub skewed : Matrix → ℤ → ℤ → Matrix
skewed m sk sa =
    if int_eq sk (pos 0) then m
    else matrix_product (matrix_product (matrix_product m (rotation sa)) (shear sk)) (rotation (neg_ℤ sa))

-- The map of a transform with these values: by minus the anchor point a, then the scale s, the skew by sk along the
-- axis sa, the rotation r, and the translation to the position p. Products are taken from the left.
unfoldable pub transform_matrix : Point → Point → Point → ℤ → ℤ → ℤ → Matrix
transform_matrix a p s r sk sa =
    let scaled = matrix_product (translation (opposite a)) (scaling s) in
    matrix_product (matrix_product (skewed scaled sk sa) (rotation r)) (translation p)
