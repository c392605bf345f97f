use Rattle.std.proofs.Common.{FitsSigned, rules}
use Rattle.std.specs.Int.{w128}
use Rattle.lot_geom.proofs.Sums.{three_fit, four_fit, four_small, mean_is}
use Rattle.lot_geom.proofs.cubic.Weights.mean.Goals as goal

pub overflow_add-sum-2 : goal.overflow_add-sum-2
overflow_add-sum-2 c =
    three_fit c.times.result c.times-2.result c.times-3.result
    c.times.ensures.small c.times-2.ensures.small c.times-3.ensures.small

pub overflow_add-sum-3 : goal.overflow_add-sum-3
overflow_add-sum-3 c =
    four_fit c.times.result c.times-2.result c.times-3.result c.times-4.result
    c.times.ensures.small c.times-2.ensures.small c.times-3.ensures.small c.times-4.ensures.small

pub rnd_div-requires-clause-x_small : goal.rnd_div-requires-clause-x_small
rnd_div-requires-clause-x_small c =
    four_small c.times.result c.times-2.result c.times-3.result c.times-4.result
    c.times.ensures.small c.times-2.ensures.small c.times-3.ensures.small c.times-4.ensures.small

pub returns : goal.returns
returns c =
    let result : FitsSigned w128 c.rnd_div.result = search rules in
    mean_is c.limited.result c.rnd_div.result c.times.result c.times-2.result c.times-3.result c.times-4.result
    c.args.x0 c.args.x1 c.args.x2 c.args.x3
    c.args.self.now.w0 c.args.self.now.w1 c.args.self.now.w2 c.args.self.now.w3 c.args.self.now.sum
    c.times.ensures.small c.times-2.ensures.small c.times-3.ensures.small c.times-4.ensures.small
    c.times.ensures.value c.times-2.ensures.value c.times-3.ensures.value c.times-4.ensures.value
    c.requires.few result c.rnd_div.ensures.value c.limited.ensures
