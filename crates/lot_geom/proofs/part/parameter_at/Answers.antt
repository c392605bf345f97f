use Rattle.std.proofs.Common.{◌≢◌, ◌∙◌, ◌+◌, ◌-◌, ◌*◌, ◌≤◌, ℕ, ap, sym, arith}
use Rattle.lot_num.specs.Round.{nearest}
use Rattle.lot_geom.specs.Chords.{length_of_chords}
use Rattle.lot_geom.specs.Lengths.{curve_length, measuring_chords, steps_of_chord, parameter_at, parameter_after}
use Rattle.lot_geom.proofs.Chords.{length_of_next}
use Rattle.lot_geom.proofs.Parameters.{at_start, at_end, at_inside, starts_below, chords_passed_is}
use Rattle.lot_geom.proofs.part.parameter_at.Goals as goal

pub returns-then-x-eq0-clause-value : goal.returns-then-x-eq0-clause-value
returns-then-x-eq0-clause-value c = sym (ap (parameter_at c.args.c.now) c.if-x-eq0.true ∙ at_start c.args.c.now)

pub returns-then-x-length-clause-value : goal.returns-then-x-length-clause-value
returns-then-x-length-clause-value c =
    sym (at_end c.args.c.now c.args.x c.if-x-eq0.false (c.if-x-length.true ∙ c.requires.whole))

pub steps_until-requires-clause-positive : goal.steps_until-requires-clause-positive
steps_until-requires-clause-positive c =
    let found = c.of-found in
    let below = starts_below c.args.c.now c.args.x found.result.before (omega (arith, c.if-x-eq0.false)) found.ensures.first in
    omega (arith, below, found.ensures.start, found.ensures.reaches)

pub steps_until-requires-clause-from : goal.steps_until-requires-clause-from
steps_until-requires-clause-from c =
    let found = c.of-found in
    let below = starts_below c.args.c.now c.args.x found.result.before (omega (arith, c.if-x-eq0.false)) found.ensures.first in
    omega (arith, below, found.ensures.start)

pub returns-clause-value : goal.returns-clause-value
returns-clause-value c =
    let curve = c.args.c.now in
    let x = c.args.x in
    let found = c.of-found in
    let k = found.result.before in
    let inside : x ≢ curve_length curve = λ e. c.if-x-length.false (e ∙ sym c.requires.whole) in
    let reached : x ≤ length_of_chords curve measuring_chords (k + 1) = omega (
      arith,
      found.ensures.reaches,
      found.ensures.start,
      found.ensures.length,
      length_of_next curve measuring_chords k,
    ) in
    let at = chords_passed_is curve x k found.ensures.within reached found.ensures.first in
    let steps = c.steps_until.ensures.value
    ∙ ap (λ (n : ℕ). nearest (steps_of_chord * (x - n)) found.result.length) found.ensures.start
    ∙ ap (λ (n : ℕ). nearest (steps_of_chord * (x - length_of_chords curve measuring_chords k)) n) found.ensures.length in
    ap (λ (n : ℕ). steps_of_chord * k + n) steps
    ∙ sym (at_inside curve x c.if-x-eq0.false inside ∙ ap (parameter_after curve x) at)
