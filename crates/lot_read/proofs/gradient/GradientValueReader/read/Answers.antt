use Rattle.std.proofs.Common.{arith, ap, length}
use Rattle.std.proofs.lemmas.Grind.{common_steps}
use Rattle.lot_read.specs.Gradient.{gradient}
use Rattle.lot_read.proofs.Lengths.{list_length, list_few}
use Rattle.lot_read.proofs.gradient.GradientValueReader.read.Goals as goal

pub returns-clause-gives : goal.returns-clause-gives
unfolding gradient
returns-clause-gives c =
    let numbers = list_length _ _ _ _ _ c.in_ok-flat.ensures.gives.value in
    record { none = grind (arith, common_steps); value = grind (arith, common_steps); uses = grind (arith, common_steps) }

pub refuse_miscounted-requires-clause-few : goal.refuse_miscounted-requires-clause-few
refuse_miscounted-requires-clause-few c =
    let few = list_few _ _ _ _ _ c.in_ok-flat.ensures.gives.value in
    omega (arith, few, ap length c.items.ensures)
