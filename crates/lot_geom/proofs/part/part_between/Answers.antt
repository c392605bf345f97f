use Rattle.std.proofs.Common.{arith}
use Rattle.lot_geom.proofs.Parameters.{parameters_ordered}
use Rattle.lot_geom.proofs.part.part_between.Goals as goal

pub split-requires-clause-ordered : goal.split-requires-clause-ordered
split-requires-clause-ordered c =
    let ordered = parameters_ordered c.args.c.now c.args.from c.args.to c.requires.ordered
    (omega (arith, c.requires.whole, c.requires.within)) in
    omega (arith, ordered, c.parameter_at-first.ensures.value, c.parameter_at-last.ensures.value)
