use Rattle.std.proofs.Common.{◌≡◌, refl, ◌∙◌, sym, subst}
use Rattle.lot_json.specs.declared.machine.mode.Mode.TheVariants as mode
use Rattle.lot_json.specs.Pending as pending
use Rattle.lot_json.specs.Pending.{State, at, stack_of, state_of}
use Rattle.lot_json.specs.Residual.{Advances}
use Rattle.lot_json.proofs.Residual.{stays}
use Rattle.lot_json.proofs.Moves.{at_mode}
use Rattle.lot_json.proofs.machine.machine.Machine.read_number.Goals as goal

pub returns : goal.returns
returns c = λ token e.
    let old = c.args.self.now in
    let here = at (pending.Number c.in-Number.number) (stack_of old) in
    let is : old.mode ≡ mode.Number c.in-Number.number = sym c.replace.ensures.value ∙ c.in-Number.is in
    subst (λ (z : State). Advances c.in_ok-progress.progress c.args.bytes.now z (state_of c.continue_number.new.self)) (sym (at_mode old (mode.Number c.in-Number.number) (stack_of old) is refl))
    (c.in_ok-progress.ensures here (stays here))
