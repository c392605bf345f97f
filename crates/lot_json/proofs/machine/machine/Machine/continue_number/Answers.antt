use Rattle.std.proofs.Common.{◌<◌, false, length, get_or, refl, arith}
use Rattle.lot_json.specs.declared.progress.Progress.TheVariants as progress
use Rattle.lot_json.specs.Pending as pending
use Rattle.lot_json.specs.Pending.{at, stack_of, state_of}
use Rattle.lot_json.proofs.Residual.{reads_same, rejected_by}
use Rattle.lot_json.proofs.TokenMoves.{number_same, number_stops}
use Rattle.lot_json.proofs.Advances.{with_next}
use Rattle.lot_json.proofs.machine.machine.Machine.continue_number.Goals as goal

pub returns-in_default : goal.returns-in_default
returns-in_default c = λ start h.
    let stack = stack_of c.args.self.now in
    let token = c.take_from.new.self in
    let bytes = c.args.bytes.now in
    let read = c.in_ok-read.read in
    let next : read < length bytes = omega (arith, c.in_ok-read.ensures.within, c.if-read-bytes.false) in
    let here = at (pending.Number token) stack in
    with_next false (progress.Rejects read) read bytes start here start refl next (c.in_ok-read.ensures.steps start stack h)
    (rejected_by (get_or bytes read 0) (pending.Number token) stack (number_stops token (length stack) (get_or bytes read 0) (c.in_ok-read.ensures.rejects next) c.in_default.ensures.part))

pub returns : goal.returns
returns c = λ start h.
    let stack = stack_of c.args.self.now in
    let token = c.take_from.new.self in
    let bytes = c.args.bytes.now in
    let read = c.in_ok-read.read in
    let next : read < length bytes = omega (arith, c.in_ok-read.ensures.within, c.if-read-bytes.false) in
    let here = at (pending.Number token) stack in
    let put = state_of c.place_value.new.self in
    let byte = get_or bytes read 0 in
    with_next c.in_ok-continues.continues c.with_next.result read bytes start here (state_of c.read_after_value.new.self) c.with_next.ensures next
    (c.in_ok-read.ensures.steps start stack h)
    (reads_same c.in_ok-continues.continues byte here put (state_of c.read_after_value.new.self)
    (number_same byte put token token c.in-Some.value stack refl (c.in_ok-read.ensures.rejects next) c.in-Some.ensures.whole c.in_ok-place_value.ensures.places)
    c.in_ok-continues.ensures)
