use Rattle.std.proofs.Common.{arith}
use Rattle.lot_geom.specs.Matrix.{matrix_product}
use Rattle.lot_group.proofs.Steps.{mapped_more}
use Rattle.lot_group.proofs.product.multiply_each.Goals as goal

pub loop-a-preserved : goal.loop-a-preserved
loop-a-preserved c =
    mapped_more (λ a. matrix_product a c.args.m.now) c.args.matrices.now c.loop-a.matrices c.loop-a.a-index
    c.a-item.result c.then.result (omega arith) c.loop-a.invariant c.then.ensures
