use Rattle.std.proofs.Common.{[], ◌∷◌, get_or, refl}
use Rattle.lot_json.specs.declared.machine.mode.Mode.TheVariants as mode
use Rattle.lot_json.specs.Pending.{stack_of, state_of}
use Rattle.lot_json.proofs.Residual.{yes_of}
use Rattle.lot_json.proofs.Moves.{moves}
use Rattle.lot_json.proofs.Within.{next_space}
use Rattle.lot_json.proofs.Advances.{first_continues}
use Rattle.lot_json.proofs.machine.machine.Machine.read_next_member.Goals as goal

pub returns-then-is_white_space : goal.returns-then-is_white_space
returns-then-is_white_space c =
    let old = c.args.self.now in
    let stack = stack_of old in
    let first = get_or c.args.bytes.now 0 0 in
    first_continues c.args.bytes.now (state_of old) (state_of old) c.requires.some
    (moves (first ∷ []) old old mode.NextMember mode.NextMember stack c.requires.mode c.requires.mode refl (next_space first stack (yes_of _ _ c.is_white_space.ensures c.if-is_white_space.true)))
