-- Cubic Bezier curves, after SVG 1.1, "The cubic Bezier curve commands". The rounding is this project's own.
use Rattle.std.specs.Prelude.{◌≡◌, ◌⊎◌, ℕ, ℤ, pos, ◌+◌, ◌-◌, ◌*◌, ◌^◌, ◌<◌, ◌≤◌, ◌+ℤ◌, ◌*ℤ◌}
use Rattle.lot_num.specs.Round.{rnd, limit}
use Rattle.lot_num.specs.Easing.{cube, grid_steps}
use Rattle.lot_types.specs.declared.point.Point.{Point}
use Rattle.lot_geom.specs.declared.cubic.Cubic.{Cubic}

-- The weights of the four control points at three parameters, in parts of n: those of the blossom of the curve, the
-- symmetric function that is affine in each parameter and is the curve where all three are the same. Their sum is the
-- cube of n.
abbrev pub weight0 : ℕ → ℕ → ℕ → ℕ → ℕ
weight0 n u v w = (n - u) * (n - v) * (n - w)

abbrev pub weight1 : ℕ → ℕ → ℕ → ℕ → ℕ
weight1 n u v w = u * (n - v) * (n - w) + (n - u) * v * (n - w) + (n - u) * (n - v) * w

abbrev pub weight2 : ℕ → ℕ → ℕ → ℕ → ℕ
weight2 n u v w = u * v * (n - w) + u * (n - v) * w + (n - u) * v * w

abbrev pub weight3 : ℕ → ℕ → ℕ → ℕ
weight3 u v w = u * v * w

-- The mean of four numbers by their weights, rounded.
unfoldable pub weighted_mean : ℕ → ℕ → ℕ → ℕ → ℕ → ℤ → ℤ → ℤ → ℤ → ℤ
weighted_mean w0 w1 w2 w3 sum x0 x1 x2 x3 =
    limit (rnd (x0 *ℤ pos w0 +ℤ x1 *ℤ pos w1 +ℤ x2 *ℤ pos w2 +ℤ x3 *ℤ pos w3) (pos sum))

-- A coordinate of the blossom, from those of the control points.
abbrev pub blossom_number : ℕ → ℕ → ℕ → ℕ → ℤ → ℤ → ℤ → ℤ → ℤ
blossom_number n u v w x0 x1 x2 x3 =
    weighted_mean (weight0 n u v w) (weight1 n u v w) (weight2 n u v w) (weight3 u v w) (cube n) x0 x1 x2 x3

-- The blossom of a curve at three parameters, in parts of n.
abbrev pub blossom : Cubic → ℕ → ℕ → ℕ → ℕ → Point
blossom c n u v w = record {
  x = blossom_number n u v w c.p0.x c.p1.x c.p2.x c.p3.x;
  y = blossom_number n u v w c.p0.y c.p1.y c.p2.y c.p3.y;
}

-- The point of a curve at k parts of n.
abbrev pub curve_point : Cubic → ℕ → ℕ → Point
curve_point c k n = blossom c n k k k

-- The part of a curve from g1 to g2, in parts of the grid.
abbrev pub part_of : Cubic → ℕ → ℕ → Cubic
part_of c g1 g2 = record {
  p0 = blossom c grid_steps g1 g1 g1;
  p1 = blossom c grid_steps g1 g1 g2;
  p2 = blossom c grid_steps g1 g2 g2;
  p3 = blossom c grid_steps g2 g2 g2;
}

-- The numbers of parts in which curves are taken.
abbrev pub IsNumberOfParts : ℕ → Type 0
IsNumberOfParts n = (n ≡ 64) ⊎ ((n ≡ 128) ⊎ (n ≡ grid_steps))

-- What the code keeps of weights: they are small, and their sum is not 0.
pub record AreSmall (w0 w1 w2 w3 sum : ℕ) : Type 0 where
  pub first : w0 ≤ 2 ^ 50
  pub second : w1 ≤ 2 ^ 50
  pub third : w2 ≤ 2 ^ 50
  pub fourth : w3 ≤ 2 ^ 50
  pub some : 0 < sum
  pub few : sum ≤ 2 ^ 50
