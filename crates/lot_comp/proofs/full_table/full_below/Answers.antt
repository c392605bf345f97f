use Rattle.std.proofs.Common.{◌≡◌, Some, None, rules}
use Rattle.std.specs.Prelude.{slice_index_or}
use Rattle.lot_comp.proofs.FullTable.{by_parent, full_at}
use Rattle.lot_comp.proofs.full_table.full_below.Goals as goal

pub returns-in-Some-entry : goal.returns-in-Some-entry
returns-in-Some-entry c =
    let found : slice_index_or c.args.made.now c.in-Some.k None ≡ Some c.in-Some-entry.m = search rules in
    by_parent c.args.d.now c.args.c c.args.l c.in-Some.k c.args.t c.own_at-own.result c.in-Some-entry.m c.then.result
    c.in-Some.ensures.chain.1 c.own_at-own.ensures
    (full_at c.args.d.now c.args.c c.args.t c.args.made.now c.in-Some.k c.in-Some-entry.m c.requires.full found) c.then.ensures
