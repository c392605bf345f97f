use Rattle.std.proofs.Common.{pos, unsigned_abs, ◌≤ℤ◌, arith, rules}
use Rattle.std.proofs.lemmas.Int.{ints}
use Rattle.lot_num.specs.Easing.{IsLeast}
use Rattle.lot_num.proofs.Curves.{signed_least}
use Rattle.lot_num.proofs.easing.ease.Goals as goal

pub returns-clause-least : goal.returns-clause-least
returns-clause-least c =
    let o_from : pos 0 ≤ℤ c.args.o.x = search rules in
    let i_from : pos 0 ≤ℤ c.args.i.x = search rules in
    let found : IsLeast (pos (unsigned_abs c.args.o.x)) (pos (unsigned_abs c.args.i.x)) (pos (unsigned_abs c.args.num)) (pos (unsigned_abs c.args.den)) c.least_step-g.result = search rules in
    signed_least _ _ _ _ _ o_from i_from c.requires.part.from (omega (arith, ints)) found
