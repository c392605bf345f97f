use Rattle.std.proofs.Common.{ℕ, List, [], ◌∷◌, length, get_or, refl, sym, subst}
use Rattle.lot_json.specs.declared.machine.mode.Mode.TheVariants as mode
use Rattle.lot_json.specs.Pending as pending
use Rattle.lot_json.specs.Pending.{State, at, stack_of, state_of}
use Rattle.lot_json.specs.Residual.{Transition}
use Rattle.lot_json.proofs.Residual.{steps_within}
use Rattle.lot_json.proofs.Moves.{leaves}
use Rattle.lot_json.proofs.Values.{value_number}
use Rattle.lot_json.proofs.TokenMoves.{number_can}
use Rattle.lot_json.proofs.Advances.{tried_first, one_more}
use Rattle.lot_json.proofs.machine.machine.Machine.read_value.Goals as goal

pub returns : goal.returns
returns c =
    let old = c.args.self.now in
    let stack = stack_of old in
    let bytes = c.args.bytes.now in
    let first = get_or bytes 0 0 in
    let number = c.begin.new.self in
    let begins = rw c.if-not-begin.false at c.begin.ensures.begins in
    let is_first = rw c.if-not-begin.false at c.begin.ensures.first in
    let can_end = rw c.if-not-begin.false at c.begin.ensures.can_end in
    let step : Transition (first ∷ []) (state_of old) (at (pending.Number number) stack) =
    leaves (first ∷ []) old mode.Value stack (at (pending.Number number) stack) c.requires.mode refl
    (steps_within first pending.Value (pending.Number number) stack (value_number (length stack) first number is_first begins) (number_can number (length stack) can_end)) in
    c.in_ok-progress.ensures (state_of old) (subst (λ (z : List ℕ). Transition z (state_of old) (at (pending.Number number) stack)) (sym (one_more bytes 0 c.requires.some)) step)

pub returns-then-not-begin : goal.returns-then-not-begin
returns-then-not-begin c = tried_first c.begin_other_value.result c.with_next.result c.args.bytes.now (state_of c.args.self.now) (state_of c.begin_other_value.new.self) c.with_next.ensures c.requires.some c.begin_other_value.ensures
