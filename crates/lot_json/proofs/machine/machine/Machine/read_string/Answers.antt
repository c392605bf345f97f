use Rattle.std.proofs.Common.{◌+◌, true, false, length, take, get_or, refl, subst}
use Rattle.lot_json.specs.declared.progress.Progress.{Progress}
use Rattle.lot_json.specs.declared.progress.Progress.TheVariants as progress
use Rattle.lot_json.specs.declared.tree.json.Json.TheVariants as tree
use Rattle.lot_json.specs.declared.progress.Progress.TheVariants as progress
use Rattle.lot_json.specs.declared.machine.mode.Mode.TheVariants as mode
use Rattle.lot_json.specs.Pending as pending
use Rattle.lot_json.specs.Pending.{at, stack_of, state_of}
use Rattle.lot_json.specs.TextRest.{TakesPrefix, text_of}
use Rattle.lot_json.proofs.Residual.{steps_placed, rejected_by}
use Rattle.lot_json.proofs.Moves.{leaves}
use Rattle.lot_json.proofs.TokenMoves.{text_run, text_ended, text_stops}
use Rattle.lot_json.proofs.Advances.{all_continue, with_next}
use Rattle.lot_json.proofs.machine.machine.Machine.read_string.Goals as goal

pub returns-in-Continues : goal.returns-in-Continues
returns-in-Continues c = λ token e.
    let old = c.args.self.now in
    let bytes = c.args.bytes.now in
    let takes : TakesPrefix bytes (progress.Continues c.in-Continues.read) c.in-Text.token c.take_prefix.new.self = subst (λ (z : Progress). TakesPrefix bytes z c.in-Text.token c.take_prefix.new.self) c.in-Continues.is c.in_ok-read.ensures in
    all_continue c.in-Continues.read bytes (state_of old) _ takes.0 c.requires
    (leaves bytes old (mode.Text c.in-Text.token) (stack_of old) _ c.in-Text.is refl (text_run bytes c.in-Text.token c.take_prefix.new.self (stack_of old) takes.1))

pub returns-in_ok-end_string-in-Ends : goal.returns-in_ok-end_string-in-Ends
returns-in_ok-end_string-in-Ends c = λ token e.
    let old = c.args.self.now in
    let new = state_of c.end_string.new.self in
    let stack = stack_of old in
    let bytes = c.args.bytes.now in
    let n = c.in-Ends.read in
    let takes : TakesPrefix bytes (progress.Ends n) c.in-Text.token c.take_prefix.new.self = subst (λ (z : Progress). TakesPrefix bytes z c.in-Text.token c.take_prefix.new.self) c.in-Ends.is c.in_ok-read.ensures in
    with_next true (progress.Continues (n + 1)) n bytes (state_of old) (at (pending.Text takes.before) stack) new refl takes.within
    (leaves (take n bytes) old (mode.Text c.in-Text.token) stack _ c.in-Text.is refl (text_run (take n bytes) c.in-Text.token takes.before stack takes.run))
    (steps_placed (get_or bytes n 0) (pending.Text takes.before) stack new (tree.Text (text_of c.take_prefix.new.self))
    (text_ended takes.before c.take_prefix.new.self (length stack) (get_or bytes n 0) takes.byte) (c.in_ok-end_string-in-Ends.ensures c.take_prefix.new.self refl))

pub returns-in-Rejects : goal.returns-in-Rejects
returns-in-Rejects c = λ token e.
    let old = c.args.self.now in
    let stack = stack_of old in
    let bytes = c.args.bytes.now in
    let n = c.in-Rejects.read in
    let takes : TakesPrefix bytes (progress.Rejects n) c.in-Text.token c.take_prefix.new.self = subst (λ (z : Progress). TakesPrefix bytes z c.in-Text.token c.take_prefix.new.self) c.in-Rejects.is c.in_ok-read.ensures in
    with_next false (progress.Rejects n) n bytes (state_of old) (at (pending.Text takes.before) stack) (state_of old) refl takes.within
    (leaves (take n bytes) old (mode.Text c.in-Text.token) stack _ c.in-Text.is refl (text_run (take n bytes) c.in-Text.token takes.before stack takes.run))
    (rejected_by (get_or bytes n 0) (pending.Text takes.before) stack (text_stops takes.before c.take_prefix.new.self (length stack) (get_or bytes n 0) takes.byte))
