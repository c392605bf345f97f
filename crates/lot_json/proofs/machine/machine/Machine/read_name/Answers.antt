use Rattle.std.proofs.Common.{◌+◌, true, false, [], ◌∷◌, take, get_or, refl, subst}
use Rattle.lot_json.specs.declared.progress.Progress.{Progress}
use Rattle.lot_json.specs.declared.progress.Progress.TheVariants as progress
use Rattle.lot_json.specs.declared.progress.Progress.TheVariants as progress
use Rattle.lot_json.specs.declared.machine.mode.Mode.TheVariants as mode
use Rattle.lot_json.specs.Pending.{state_in, stack_of, state_of}
use Rattle.lot_json.specs.TextRest.{TakesPrefix}
use Rattle.lot_json.proofs.Moves.{leaves, arrives}
use Rattle.lot_json.proofs.Within.{name_on, name_end, name_rejected}
use Rattle.lot_json.proofs.Advances.{all_continue, with_next}
use Rattle.lot_json.proofs.machine.machine.Machine.read_name.Goals as goal

pub returns-in-Continues : goal.returns-in-Continues
returns-in-Continues c = λ token e.
    let old = c.args.self.now in
    let bytes = c.args.bytes.now in
    let takes : TakesPrefix bytes (progress.Continues c.in-Continues.read) c.in-Name.token c.take_prefix.new.self = subst (λ (z : Progress). TakesPrefix bytes z c.in-Name.token c.take_prefix.new.self) c.in-Continues.is c.in_ok-read.ensures in
    all_continue c.in-Continues.read bytes (state_of old) _ takes.0 c.requires
    (leaves bytes old (mode.Name c.in-Name.token) (stack_of old) _ c.in-Name.is refl (name_on bytes c.in-Name.token c.take_prefix.new.self (stack_of old) takes.1))

pub returns-in-Ends : goal.returns-in-Ends
returns-in-Ends c = λ token e.
    let old = c.args.self.now in
    let stack = stack_of old in
    let bytes = c.args.bytes.now in
    let n = c.in-Ends.read in
    let takes : TakesPrefix bytes (progress.Ends n) c.in-Name.token c.take_prefix.new.self = subst (λ (z : Progress). TakesPrefix bytes z c.in-Name.token c.take_prefix.new.self) c.in-Ends.is c.in_ok-read.ensures in
    let before = state_in (mode.Name takes.before) stack in
    with_next true (progress.Continues (n + 1)) n bytes (state_of old) before (state_of c.end_name.new.self) refl takes.within
    (leaves (take n bytes) old (mode.Name c.in-Name.token) stack before c.in-Name.is refl (name_on (take n bytes) c.in-Name.token takes.before stack takes.run))
    (arrives (get_or bytes n 0 ∷ []) before c.end_name.new.self mode.Colon _ (c.end_name.ensures.mode c.take_prefix.new.self refl) (c.end_name.ensures.stack c.take_prefix.new.self refl)
    (name_end (get_or bytes n 0) takes.before c.take_prefix.new.self stack takes.byte))

pub returns-in-Rejects : goal.returns-in-Rejects
returns-in-Rejects c = λ token e.
    let old = c.args.self.now in
    let stack = stack_of old in
    let bytes = c.args.bytes.now in
    let n = c.in-Rejects.read in
    let takes : TakesPrefix bytes (progress.Rejects n) c.in-Name.token c.take_prefix.new.self = subst (λ (z : Progress). TakesPrefix bytes z c.in-Name.token c.take_prefix.new.self) c.in-Rejects.is c.in_ok-read.ensures in
    let before = state_in (mode.Name takes.before) stack in
    with_next false (progress.Rejects n) n bytes (state_of old) before (state_of old) refl takes.within
    (leaves (take n bytes) old (mode.Name c.in-Name.token) stack before c.in-Name.is refl (name_on (take n bytes) c.in-Name.token takes.before stack takes.run))
    (name_rejected (get_or bytes n 0) takes.before c.take_prefix.new.self stack takes.byte)
