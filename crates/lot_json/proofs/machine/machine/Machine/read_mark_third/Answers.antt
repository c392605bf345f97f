use Rattle.std.proofs.Common.{◌-◌, [], ◌∷◌, length}
use Rattle.lot_json.specs.declared.machine.mode.Mode.TheVariants as mode
use Rattle.lot_json.specs.Pending as pending
use Rattle.lot_json.specs.Pending.{stack_of}
use Rattle.lot_json.proofs.Residual.{steps_within, rejected_by}
use Rattle.lot_json.proofs.Moves.{moves, rejected}
use Rattle.lot_json.proofs.Values.{element_can}
use Rattle.lot_json.proofs.TokenMoves.{mark_third_leads, mark_third_stops}
use Rattle.lot_json.proofs.machine.machine.Machine.read_mark_third.Goals as goal

pub returns-then-c-ne191 : goal.returns-then-c-ne191
returns-then-c-ne191 c =
    let old = c.args.self.now in
    rejected c.args.c old mode.MarkThird c.requires (rejected_by c.args.c pending.MarkThird (stack_of old) (mark_third_stops (length (stack_of old)) c.args.c c.if-c-ne191.true))

pub returns : goal.returns
returns c =
    let old = c.args.self.now in
    moves (c.args.c ∷ []) old c.set_mode.new.self mode.MarkThird mode.Value (stack_of old) c.requires c.set_mode.ensures.turned c.set_mode.ensures.stack
    (steps_within c.args.c pending.MarkThird pending.Value (stack_of old) (mark_third_leads (length (stack_of old)) c.args.c c.if-c-ne191.false) (element_can (128 - length (stack_of old))))
