use Rattle.std.proofs.Common.{◌∙◌, ◌-◌, ◌*◌, ◌^◌, pos, slice_index, ap, FitsSigned, w64}
use Rattle.std.proofs.lemmas.Int.{to_z-of_z}
use Rattle.lot_types.specs.declared.point.Point.{Point}
use Rattle.lot_geom.specs.Along.{end_of_chords, on_chord}
use Rattle.lot_geom.proofs.Chords.{goal_reached, before_is_passed, within_chord, is_along}
use Rattle.lot_geom.proofs.arc_length.along.Goals as goal

pub first_reaching-k-requires-clause-reached : goal.first_reaching-k-requires-clause-reached
first_reaching-k-requires-clause-reached c =
    goal_reached c.args.c.now c.measure-total.new.lengths c.fraction_of-f.result c.measure-total.result
    c.measure-total.ensures.each c.measure-total.ensures.total c.fraction_of-f.ensures.small

pub overflow_sub-passed : goal.overflow_sub-passed
overflow_sub-passed c =
    before_is_passed c.measure-total.new.lengths (c.fraction_of-f.result * c.measure-total.result)
    c.first_reaching-k.result.1 c.first_reaching-k.result.0
    c.first_reaching-k.ensures.before c.first_reaching-k.ensures.first

pub on_chord-requires-clause-within : goal.on_chord-requires-clause-within
on_chord-requires-clause-within c =
    within_chord c.measure-total.new.lengths (c.fraction_of-f.result * c.measure-total.result)
    c.first_reaching-k.result.1 c.first_reaching-k.result.0
    c.first_reaching-k.ensures.before c.first_reaching-k.ensures.reaches

pub returns : goal.returns
returns c =
    let f : FitsSigned w64 c.args.f = c.ranges.f in
    let fraction = simp to_z-of_z at c.fraction_of-f.ensures.value in
    let k = c.first_reaching-k.result.0 in
    let length = slice_index c.measure-total.new.lengths k in
    let passed = pos (c.fraction_of-f.result * c.measure-total.result - 10 ^ 6 * c.first_reaching-k.result.1) in
    c.on_chord.ensures
    ∙ ap (λ (p : Point). on_chord p c.chord_end-q.result length passed) c.chord_end-p.ensures
    ∙ ap (λ (q : Point). on_chord (end_of_chords c.args.c.now k) q length passed) c.chord_end-q.ensures
    ∙ is_along c.args.c.now c.args.f c.measure-total.new.lengths c.fraction_of-f.result c.measure-total.result
    c.first_reaching-k.result.1 k
    fraction c.measure-total.ensures.total c.measure-total.ensures.each
    c.first_reaching-k.ensures.within c.first_reaching-k.ensures.before
    c.first_reaching-k.ensures.reaches c.first_reaching-k.ensures.first
