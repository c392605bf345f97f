use Rattle.std.proofs.Common.{◌≡◌, ◌+◌, ℕ, List, [], ◌∷◌, ◌++◌, length, length-append, get_or, ap, ◌∙◌, arith}
use Rattle.lot_json.specs.declared.machine.mode.Mode.TheVariants as mode
use Rattle.lot_json.specs.Pending.{state_in, with_name, stack_of, state_of}
use Rattle.lot_json.proofs.Moves.{arrives}
use Rattle.lot_json.proofs.Within.{next_name}
use Rattle.lot_json.proofs.WholeTokens.{spelled_whole, whole_name}
use Rattle.lot_json.proofs.Advances.{prefix_continues, first_continues}
use Rattle.lot_json.proofs.machine.machine.Machine.begin_name.Goals as goal

pub returns-in_ok-of-in-Some : goal.returns-in_ok-of-in-Some
returns-in_ok-of-in-Some c =
    let stack = stack_of c.args.self.now in
    let name = c.in-Some.name.now in
    let bytes = c.args.bytes.now in
    let spelled = c.in-Some.ensures.spelled in
    let kept : stack_of c.set_mode.new.self ≡ with_name name stack = c.set_mode.ensures.stack ∙ c.set_name.ensures.stack ∙ ap (λ (z : List ℕ). with_name z stack) c.in_ok-of-in-Some.ensures in
    prefix_continues (length name + 2) bytes (34 ∷ (name ++ 34 ∷ [])) spelled.0 (state_in mode.NextMember stack) (state_of c.set_mode.new.self) (spelled_whole bytes name spelled.0 c.requires.some c.requires.quote spelled.1)
    (let l = length-append name (34 ∷ []) in omega (arith, l)) (omega arith)
    (arrives (34 ∷ (name ++ 34 ∷ [])) (state_in mode.NextMember stack) c.set_mode.new.self mode.Colon (with_name name stack) c.set_mode.ensures.turned kept (whole_name name stack c.in-Some.ensures.utf8 c.in-Some.ensures.unescaped))

pub returns-in-None : goal.returns-in-None
returns-in-None c =
    let stack = stack_of c.args.self.now in
    let first = get_or c.args.bytes.now 0 0 in
    first_continues c.args.bytes.now (state_in mode.NextMember stack) (state_of c.set_mode-in-None.new.self) c.requires.some
    (arrives (first ∷ []) (state_in mode.NextMember stack) c.set_mode-in-None.new.self (mode.Name c.new.result) stack c.set_mode-in-None.ensures.turned c.set_mode-in-None.ensures.stack
    (next_name first c.new.result stack c.requires.quote c.new.ensures.begins c.new.ensures.can_end))
