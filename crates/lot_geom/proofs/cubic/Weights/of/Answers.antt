use Rattle.std.proofs.Common.{arith}
use Rattle.lot_geom.proofs.Weights.{second_small, third_small, are_small}
use Rattle.lot_geom.proofs.cubic.Weights.of.Goals as goal

pub overflow_add-result-2 : goal.overflow_add-result-2
overflow_add-result-2 c =
    omega (
      arith,
      second_small c.args.n c.args.u c.args.v c.args.w
          c.requires.few c.requires.first c.requires.second c.requires.third,
    )

pub overflow_add-result-4 : goal.overflow_add-result-4
overflow_add-result-4 c =
    omega (
      arith,
      third_small c.args.n c.args.u c.args.v c.args.w
          c.requires.few c.requires.first c.requires.second c.requires.third,
    )

pub returns-clause-fit : goal.returns-clause-fit
returns-clause-fit c =
    are_small c.args.n c.args.u c.args.v c.args.w
    c.requires.some c.requires.few c.requires.first c.requires.second c.requires.third
