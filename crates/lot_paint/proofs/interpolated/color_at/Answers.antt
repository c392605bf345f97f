use Rattle.std.proofs.Common.{◌∙◌, ◌<◌, length, ap, sym, subst, arith}
use Rattle.lot_types.specs.declared.color.Color.{Color}
use Rattle.lot_paint.specs.declared.list_stop.ListStop.{ListStop}
use Rattle.lot_paint.specs.Merging.{IsReached}
use Rattle.lot_paint.specs.Stops.{interpolated_color}
use Rattle.lot_paint.proofs.Reached.{first_is, value_before, value_after, value_inside, past_before, below_next}
use Rattle.lot_paint.proofs.interpolated.color_at.Goals as goal

pub returns-then-k-eq0 : goal.returns-then-k-eq0
returns-then-k-eq0 c first more is =
    let stops = c.args.stops.now in
    let s = c.index-stops-0.result in
    let none = subst (IsReached stops c.args.x) c.if-k-eq0.true c.requires.reached in
    ap (λ (t : ListStop Color). t.value) (sym c.index-stops-0.is ∙ first_is stops s first more c.index-stops-0.is is)
    ∙ sym (value_before interpolated_color first stops c.args.x none)

pub returns-then-k-stops : goal.returns-then-k-stops
returns-then-k-stops c first more is =
    let none = c.if-k-eq0.false in
    let some : 0 < c.args.k = omega (arith, none) in
    sym (value_after interpolated_color first c.args.stops.now c.args.x c.args.k c.index-stops-k.result some
    c.if-k-stops.true c.index-stops-k.is c.requires.reached)

pub color_between-requires-clause-from : goal.color_between-requires-clause-from
color_between-requires-clause-from c =
    let none = c.if-k-eq0.false in
    let some : 0 < c.args.k = omega (arith, none) in
    past_before c.args.stops.now c.args.x c.args.k c.index-stops-k.result some c.index-stops-k.is c.requires.reached

pub color_between-requires-clause-to : goal.color_between-requires-clause-to
color_between-requires-clause-to c =
    let within = c.requires.reached.within in
    let more = c.if-k-stops.false in
    let lt : c.args.k < length c.args.stops.now = omega (arith, within, more) in
    below_next c.args.stops.now c.args.x c.args.k c.index-stops-k-2.result lt c.index-stops-k-2.is c.requires.reached

pub returns : goal.returns
returns c first more is =
    let none = c.if-k-eq0.false in
    let some : 0 < c.args.k = omega (arith, none) in
    let within = c.requires.reached.within in
    let after = c.if-k-stops.false in
    let lt : c.args.k < length c.args.stops.now = omega (arith, within, after) in
    c.color_between.ensures
    ∙ sym (value_inside interpolated_color first c.args.stops.now c.args.x c.args.k c.index-stops-k.result
    c.index-stops-k-2.result some lt c.index-stops-k.is c.index-stops-k-2.is c.requires.reached)
