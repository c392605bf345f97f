use Rattle.std.proofs.Common.{[], ◌∷◌, length}
use Rattle.lot_json.specs.declared.machine.mode.Mode.TheVariants as mode
use Rattle.lot_json.specs.Pending as pending
use Rattle.lot_json.specs.Pending.{stack_of}
use Rattle.lot_json.proofs.Residual.{steps_within, rejected_by}
use Rattle.lot_json.proofs.Moves.{moves, rejected}
use Rattle.lot_json.proofs.TokenMoves.{mark_second_leads, mark_second_stops, mark_third_can}
use Rattle.lot_json.proofs.machine.machine.Machine.read_mark_second.Goals as goal

pub returns-then-c-ne187 : goal.returns-then-c-ne187
returns-then-c-ne187 c =
    let old = c.args.self.now in
    rejected c.args.c old mode.MarkSecond c.requires (rejected_by c.args.c pending.MarkSecond (stack_of old) (mark_second_stops (length (stack_of old)) c.args.c c.if-c-ne187.true))

pub returns : goal.returns
returns c =
    let old = c.args.self.now in
    moves (c.args.c ∷ []) old c.set_mode.new.self mode.MarkSecond mode.MarkThird (stack_of old) c.requires c.set_mode.ensures.turned c.set_mode.ensures.stack
    (steps_within c.args.c pending.MarkSecond pending.MarkThird (stack_of old) (mark_second_leads (length (stack_of old)) c.args.c c.if-c-ne187.false) (mark_third_can (length (stack_of old))))
