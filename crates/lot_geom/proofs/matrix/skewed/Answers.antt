use Rattle.std.proofs.Common.{◌≡◌, pos, false, rules}
use Rattle.std.specs.Ordering.{int_eq}
use Rattle.lot_geom.proofs.Turns.{skewed_is}
use Rattle.lot_geom.proofs.matrix.skewed.Goals as goal

pub returns : goal.returns
returns c =
    let some : int_eq c.args.sk (pos 0) ≡ false = search rules in
    skewed_is c.args.m c.args.sk c.args.sa c.negated.result
    c.rotation.result c.then.result c.shear.result c.then-along_axis.result c.rotation-2.result c.then-2.result
    some c.rotation.ensures c.then.ensures c.shear.ensures
    c.then-along_axis.ensures c.negated.ensures c.rotation-2.ensures c.then-2.ensures
