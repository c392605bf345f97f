use Rattle.std.proofs.Common.{◌+◌, [], ◌∷◌, length, refl}
use Rattle.lot_json.specs.declared.machine.mode.Mode.TheVariants as mode
use Rattle.lot_json.specs.Pending as pending
use Rattle.lot_json.specs.Pending.{stack_of, state_of}
use Rattle.lot_json.proofs.Residual.{steps_within, steps_placed}
use Rattle.lot_json.proofs.Moves.{moves, leaves}
use Rattle.lot_json.proofs.Literals.{literal_on, literal_on_can, literal_at_end}
use Rattle.lot_json.proofs.machine.machine.Machine.read_literal.Goals as goal

pub returns-then-read-letters-2 : goal.returns-then-read-letters-2
returns-then-read-letters-2 c =
    let old = c.args.self.now in
    let stack = stack_of old in
    let letters = c.letters-letters in
    moves (c.args.c ∷ []) old c.set_mode.new.self (mode.Literal c.args.literal c.args.read) (mode.Literal c.args.literal (c.args.read + 1)) stack c.requires c.set_mode.ensures.turned c.set_mode.ensures.stack
    (steps_within c.args.c (pending.Literal c.args.literal c.args.read) (pending.Literal c.args.literal (c.args.read + 1)) stack
    (literal_on c.args.literal c.args.read (length stack) c.args.c letters.result.now letters.ensures c.if-read-letters-2.true c.if-letters-read.false)
    (literal_on_can c.args.literal c.args.read (length stack) letters.result.now letters.ensures c.if-read-letters-2.true))

pub returns : goal.returns
returns c =
    let old = c.args.self.now in
    let stack = stack_of old in
    let letters = c.letters-letters in
    leaves (c.args.c ∷ []) old (mode.Literal c.args.literal c.args.read) stack (state_of c.place_value.new.self) c.requires refl
    (steps_placed c.args.c (pending.Literal c.args.literal c.args.read) stack (state_of c.place_value.new.self) c.value.result
    (literal_at_end c.args.literal c.args.read (length stack) c.args.c letters.result.now c.value.result letters.ensures c.if-read-letters.false c.if-read-letters-2.false c.if-letters-read.false c.value.ensures) c.in_ok-place_value.ensures.places)
