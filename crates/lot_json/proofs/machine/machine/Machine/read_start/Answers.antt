use Rattle.std.proofs.Common.{◌-◌, [], ◌∷◌, length, get_or}
use Rattle.lot_json.specs.declared.machine.mode.Mode.TheVariants as mode
use Rattle.lot_json.specs.Pending as pending
use Rattle.lot_json.specs.Pending.{at, stack_of, state_of}
use Rattle.lot_json.proofs.Residual.{steps_within, same_by}
use Rattle.lot_json.proofs.Moves.{moves, same}
use Rattle.lot_json.proofs.Values.{element_can}
use Rattle.lot_json.proofs.TokenMoves.{start_mark, mark_second_can, start_value-ahead, start_value-back}
use Rattle.lot_json.proofs.Advances.{first_continues, advances_same}
use Rattle.lot_json.proofs.machine.machine.Machine.read_start.Goals as goal

pub returns-then-bytes : goal.returns-then-bytes
returns-then-bytes c =
    let old = c.args.self.now in
    let stack = stack_of old in
    let first = get_or c.args.bytes.now 0 0 in
    let new = c.set_mode.new.self in
    first_continues c.args.bytes.now (state_of old) (state_of new) c.requires.some
    (moves (first ∷ []) old new mode.Start mode.MarkSecond stack c.requires.mode c.set_mode.ensures.turned c.set_mode.ensures.stack
    (steps_within first pending.Start pending.MarkSecond stack (start_mark (length stack) first c.if-bytes.true) (mark_second_can (length stack))))

pub returns : goal.returns
returns c =
    let old = c.args.self.now in
    let stack = stack_of old in
    let first = get_or c.args.bytes.now 0 0 in
    let mid = c.set_mode-2.new.self in
    advances_same c.in_ok-progress.progress c.args.bytes.now (state_of old) (state_of mid) (state_of c.read_value.new.self) c.requires.some
    (same first old mid mode.Start mode.Value stack c.requires.mode c.set_mode-2.ensures.turned c.set_mode-2.ensures.stack
    (same_by first pending.Start stack pending.Value stack (start_value-ahead first c.if-bytes.false stack) (start_value-back first stack) (element_can (128 - length stack))))
    c.in_ok-progress.ensures
