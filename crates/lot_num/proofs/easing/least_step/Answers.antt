use Rattle.std.proofs.Common.{arith, rules}
use Rattle.lot_num.proofs.Curves.{from_start, to_middle, after_middle, is_least}
use Rattle.lot_num.proofs.easing.least_step.Goals as goal

pub loop-low-init : goal.loop-low-init
loop-low-init c = from_start c.args.a c.args.b c.args.num c.args.den c.requires.part

pub loop-low-preserved-then-reaches : goal.loop-low-preserved-then-reaches
loop-low-preserved-then-reaches c = to_middle _ _ _ _ _ _ _ c.loop-low.invariant (omega arith) (omega arith) (search rules)

pub loop-low-preserved : goal.loop-low-preserved
loop-low-preserved c = after_middle _ _ _ _ _ _ _ c.requires.a_in c.requires.b_in c.loop-low.invariant (omega arith) (search rules)

pub returns : goal.returns
returns c = is_least c.args.a c.args.b c.args.num c.args.den c.loop-low.low c.loop-low.high c.loop-low.invariant c.loop-low-test.false
