use Rattle.std.proofs.Common.{arith, ◌∙◌}
use Rattle.lot_num.proofs.EndZeros.{cut_zero, keep_other}
use Rattle.lot_num.proofs.digits.len_without_end_zeros.Goals as goal

pub loop-kept-preserved : goal.loop-kept-preserved
loop-kept-preserved c = record {
  within = omega arith;
  same = cut_zero _ _ c.loop-kept-test.true c.loop-kept.invariant.within c.if-digits-kept-eq48.true ∙ c.loop-kept.invariant.same;
}

pub returns-else-digits-kept-eq48-clause-text : goal.returns-else-digits-kept-eq48-clause-text
returns-else-digits-kept-eq48-clause-text c =
    keep_other _ _ c.loop-kept-test.true c.loop-kept.invariant.within c.if-digits-kept-eq48.false ∙ c.loop-kept.invariant.same
