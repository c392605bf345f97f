use Rattle.std.proofs.Common.{rules, ◌≡◌, ◌*◌, ◌-◌, ◌<◌, ◌^◌, arith}
use Rattle.lot_num.specs.Round.{nearest}
use Rattle.lot_geom.specs.Lengths.{steps_of_chord}
use Rattle.lot_geom.proofs.Parameters.{nearest_small}
use Rattle.lot_geom.proofs.part.ChordAt.steps_until.Goals as goal

pub overflow_cast-result : goal.overflow_cast-result
overflow_cast-result c =
    let here = c.args.self.now in
    let passed = steps_of_chord * (c.args.x - here.start) in
    let is : c.unsigned_abs.result ≡ nearest passed here.length = search rules in
    let small = nearest_small passed here.length steps_of_chord c.requires.positive
    (omega (arith, c.requires.from, c.requires.to)) in
    let lt : c.unsigned_abs.result < 2 ^ 32 = omega (arith, is, small) in
    search rules

pub returns-clause-small : goal.returns-clause-small
returns-clause-small c =
    let here = c.args.self.now in
    let passed = steps_of_chord * (c.args.x - here.start) in
    let is : c.unsigned_abs.result ≡ nearest passed here.length = search rules in
    omega (
      arith,
      is,
      nearest_small passed here.length steps_of_chord c.requires.positive (omega (arith, c.requires.from, c.requires.to)),
    )
