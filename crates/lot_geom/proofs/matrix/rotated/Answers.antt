use Rattle.std.proofs.Common.{◌≡◌, pos, rules}
use Rattle.lot_geom.proofs.Turns.{HasRange, turned_by_zero}
use Rattle.lot_geom.proofs.matrix.rotated.Goals as goal

pub returns-then-get-eq0 : goal.returns-then-get-eq0
returns-then-get-eq0 c =
    let zero : c.args.r ≡ pos 0 = search rules in
    let range : HasRange c.args.m =
    record { a = search rules; b = search rules; c = search rules; d = search rules; e = search rules; f = search rules } in
    turned_by_zero c.args.m c.args.r range zero
