use Rattle.std.proofs.Common.{arith}
use Rattle.lot_geom.proofs.Chords.{sum_of_next, at_start, passes, end_fits}
use Rattle.lot_geom.proofs.arc_length.first_reaching.Goals as goal

pub loop-k-init : goal.loop-k-init
loop-k-init c = at_start c.args.lengths.now c.args.goal

pub overflow_add-end : goal.overflow_add-end
overflow_add-end c =
    omega (
      arith,
      end_fits c.args.lengths.now c.args.goal c.loop-k.before c.loop-k.k
          c.requires.short c.loop-k-test.true c.loop-k.invariant,
    )

pub returns-then-goal-end-clause-reaches : goal.returns-then-goal-end-clause-reaches
returns-then-goal-end-clause-reaches c =
    omega (arith, c.if-goal-end.true, c.loop-k.invariant.sum, sum_of_next c.args.lengths.now c.loop-k.k)

pub loop-k-preserved : goal.loop-k-preserved
loop-k-preserved c = passes c.args.lengths.now c.args.goal c.loop-k.before c.loop-k.k c.loop-k.invariant c.if-goal-end.false
