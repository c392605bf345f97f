use Rattle.std.proofs.Common.{ℤ, w64, ap, ◌∙◌}
use Rattle.std.proofs.lemmas.Int.{to_z-of_z}
use Rattle.std.specs.BTreeMap.{get}
use Rattle.std.specs.Ordering.{int_cmp}
use Rattle.lot_refs.proofs.numbers.find.Goals as goal

pub returns : goal.returns
returns c =
    c.copied.ensures ∙ c.get.ensures.value
    ∙ ap (λ (z : ℤ). get int_cmp c.args.index.now z) (to_z-of_z w64 c.args.number c.ranges.number)
