use Rattle.std.proofs.Common.{◌≡◌, ◌∙◌, ◌<◌, length, get_or, sym, subst, arith}
use Rattle.lot_paint.specs.Merging.{IsReached}
use Rattle.lot_paint.specs.Stops.{interpolated_number}
use Rattle.lot_paint.proofs.Reached.{opacity_none, opacity_value, value_before, value_after, value_inside, past_before, below_next}
use Rattle.lot_paint.proofs.interpolated.opacity_at.Goals as goal

pub returns-then-is_empty : goal.returns-then-is_empty
returns-then-is_empty c =
    let none : length c.args.stops.now ≡ 0 = grind (arith, c.is_empty.ensures, c.if-is_empty.true) in
    opacity_none c.args.stops.now c.args.x none

pub returns-then-k-eq0 : goal.returns-then-k-eq0
returns-then-k-eq0 c =
    let stops = c.args.stops.now in
    let s = c.index-stops-0.result in
    let some : 0 < length stops = grind (arith, c.is_empty.ensures, c.if-is_empty.false) in
    let none = subst (IsReached stops c.args.x) c.if-k-eq0.true c.requires in
    sym (value_before interpolated_number (get_or stops 0 s) stops c.args.x none) ∙ opacity_value stops c.args.x s some

pub returns-then-k-stops : goal.returns-then-k-stops
returns-then-k-stops c =
    let stops = c.args.stops.now in
    let s = c.index-stops-k.result in
    let none = c.if-k-eq0.false in
    let some_k : 0 < c.args.k = omega (arith, none) in
    let some : 0 < length stops = grind (arith, c.is_empty.ensures, c.if-is_empty.false) in
    sym (value_after interpolated_number (get_or stops 0 s) stops c.args.x c.args.k s some_k c.if-k-stops.true
    c.index-stops-k.is c.requires)
    ∙ opacity_value stops c.args.x s some

pub interpolated_number-requires-clause-from : goal.interpolated_number-requires-clause-from
interpolated_number-requires-clause-from c =
    let none = c.if-k-eq0.false in
    let some : 0 < c.args.k = omega (arith, none) in
    past_before c.args.stops.now c.args.x c.args.k c.index-stops-k.result some c.index-stops-k.is c.requires

pub interpolated_number-requires-clause-to : goal.interpolated_number-requires-clause-to
interpolated_number-requires-clause-to c =
    let within = c.requires.within in
    let more = c.if-k-stops.false in
    let lt : c.args.k < length c.args.stops.now = omega (arith, within, more) in
    below_next c.args.stops.now c.args.x c.args.k c.index-stops-k-2.result lt c.index-stops-k-2.is c.requires

pub returns : goal.returns
returns c =
    let stops = c.args.stops.now in
    let s = c.index-stops-k.result in
    let none = c.if-k-eq0.false in
    let some_k : 0 < c.args.k = omega (arith, none) in
    let within = c.requires.within in
    let after = c.if-k-stops.false in
    let lt : c.args.k < length stops = omega (arith, within, after) in
    c.interpolated_number.ensures
    ∙ sym (value_inside interpolated_number (get_or stops 0 s) stops c.args.x c.args.k s c.index-stops-k-2.result some_k lt
    c.index-stops-k.is c.index-stops-k-2.is c.requires)
    ∙ opacity_value stops c.args.x s (omega (arith, lt))
