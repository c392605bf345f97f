-- Products of matrices from the left. Each step rounds, so that the order and the grouping matter.
use Rattle.std.specs.Prelude.{◌≡◌, List, [], ◌∷◌, Option, Some, None}
use Rattle.lot_geom.specs.Matrix.{identity, matrix_product}
use Rattle.lot_types.specs.declared.matrix.Matrix.{Matrix}
use Rattle.lot_types.specs.Range.{InRange}

-- One map and then another, where there are both.
unfoldable pub then_both : Option Matrix → Option Matrix → Option Matrix
then_both (Some m) (Some n) = Some (matrix_product m n)
then_both (Some m) None = None
then_both None n = None

-- The map m, and then each of the others in order.
abbrev pub map_product_from : Option Matrix → List (Option Matrix) → Option Matrix
map_product_from m [] = m
map_product_from m (n ∷ ns) = map_product_from (then_both m n) ns

-- The product of maps in order. That of none is the identity.
abbrev pub map_product : List (Option Matrix) → Option Matrix
map_product ms = map_product_from (Some identity) ms

-- The coefficients of a map are in the range of numbers, as those of every kept and every evaluated map are.
pub record HasRange (m : Matrix) : Type 0 where
  pub a : InRange m.a
  pub b : InRange m.b
  pub c : InRange m.c
  pub d : InRange m.d
  pub e : InRange m.e
  pub f : InRange m.f

-- The product of one map is that map.
abbrev pub IsKept : Matrix → Type 0
IsKept m = map_product (Some m ∷ []) ≡ Some m
