use Rattle.std.proofs.Common.{◌≡◌, List, Option, take, ◌∙◌, arith}
use Rattle.std.proofs.lemmas.List.{take_all}
use Rattle.lot_types.specs.declared.matrix.Matrix.{Matrix}
use Rattle.lot_comp.proofs.FullTable.{all_are_full}
use Rattle.lot_comp.proofs.full_table.full_matrices.Goals as goal

pub returns : goal.returns
returns c =
    let items : List (Option Matrix) = c.deref-m-items.result.now in
    let end : take c.loop-m.m-index items ≡ items = take_all c.loop-m.m-index items (omega (arith, c.loop-m-test.false)) in
    all_are_full c.args.d.now c.args.c c.args.t c.in_ok-made.made.items c.loop-m.ms c.in_ok-made.ensures.full
    (c.loop-m.invariant ∙ end ∙ c.deref-m-items.ensures.value)
