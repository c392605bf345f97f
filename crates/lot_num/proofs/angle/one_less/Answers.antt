use Rattle.std.proofs.Common.{arith}
use Rattle.std.proofs.lemmas.Int.{ints}
use Rattle.lot_num.specs.Angle.{unit}
use Rattle.lot_num.proofs.Nearest.{nearest_within}
use Rattle.lot_num.proofs.angle.one_less.Goals as goal

pub returns-clause-value : goal.returns-clause-value
returns-clause-value c =
    omega (arith, ints, c.nearest_u128.ensures.value, nearest_within c.args.x c.args.n unit c.requires.positive c.requires.small)
