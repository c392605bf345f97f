use Rattle.std.proofs.Common.{◌≡◌, ◌++◌, map, take, drop}
use Rattle.lot_geom.specs.Matrix.{matrix_product}
use Rattle.lot_group.proofs.product.multiply_each.Given as goal

abbrev pub invariant-loop-a : goal.invariant-loop-a
invariant-loop-a l =
    l.matrices ≡ map (λ a. matrix_product a l.m) (take l.a-index l.initial.matrices) ++ drop l.a-index
    l.initial.matrices
