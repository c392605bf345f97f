use Rattle.std.proofs.Common.{arith, rules}
use Rattle.std.proofs.lemmas.Int.{ints}
use Rattle.lot_num.proofs.Curves.{curve_of}
use Rattle.lot_num.proofs.easing.curve_at.Goals as goal

pub returns-clause-value : goal.returns-clause-value
returns-clause-value c =
    curve_of _ c.args.a c.args.b c.times.result c.times-2.result c.times-3.result c.args.g
    c.weights-p.result.0 c.weights-p.result.1 c.weights-p.result.2
    (omega (arith, ints)) (search rules) (search rules) (search rules)
    c.weights-p.ensures.first c.weights-p.ensures.second c.weights-p.ensures.end

pub returns-clause-small : goal.returns-clause-small
returns-clause-small c =
    omega (arith, ints, c.times.ensures.small, c.times-2.ensures.small, c.times-3.ensures.small, c.weights-p.ensures.whole)
