use Rattle.std.proofs.Common.{◌≡◌, ◌<◌, [], length, refl, rules, subst}
use Rattle.lot_json.specs.declared.machine.mode.Mode.TheVariants as mode
use Rattle.lot_json.specs.Pending.{State, stack_of}
use Rattle.lot_json.specs.Residual.{Remaining}
use Rattle.lot_json.proofs.Moves.{at_mode}
use Rattle.lot_json.proofs.Ends.{number_within, number_part, root_number_of}
use Rattle.lot_json.proofs.machine.machine.Machine.finish.Goals as goal

pub returns-then-not-is_empty-clause-part : goal.returns-then-not-is_empty-clause-part
returns-then-not-is_empty-clause-part c = λ y h.
    let some : 0 < length c.args.self.stack.items = search rules in
    number_within c.in-Number.number c.args.self.stack.items y some (subst (λ (z : State). Remaining z [] y) (at_mode c.args.self (mode.Number c.in-Number.number) (stack_of c.args.self) c.in-Number.is refl) h)

pub returns-in-Some-clause-whole : goal.returns-in-Some-clause-whole
returns-in-Some-clause-whole c = λ live y.
    let none : length c.args.self.stack.items ≡ 0 = search rules in
    root_number_of c.args.self c.in-Number.number c.in-Some.m c.in-Number.is none c.in-Some.ensures.whole y

pub returns-in-Number-clause-part : goal.returns-in-Number-clause-part
returns-in-Number-clause-part c = λ y h.
    number_part c.in-Number.number (stack_of c.args.self) y c.in-None.ensures.part (subst (λ (z : State). Remaining z [] y) (at_mode c.args.self (mode.Number c.in-Number.number) (stack_of c.args.self) c.in-Number.is refl) h)
