use Rattle.std.proofs.Common.{◌≡◌, subst, IfOk}
use Rattle.lot_types.specs.declared.fault.Fault.{Fault}
use Rattle.lot_types.specs.declared.refusal.Refusal.{Refusal}
use Rattle.lot_types.specs.Refusals.{Fails}
use Rattle.lot_play.specs.declared.answer.Answer.{Answer}
use Rattle.lot_play.specs.Judged.{judged}
use Rattle.lot_play.specs.Output.{fault_answer}
use Rattle.lot_play.proofs.Evaluating.{tree_of_document}
use Rattle.lot_play.proofs.Judging.{is_document, is_fault}
use Rattle.lot_play.proofs.judge.judge_tree.Goals as goal

pub returns-in-Ok-clause-answer : goal.returns-in-Ok-clause-answer
returns-in-Ok-clause-answer g c = is_document c.perform.result c.args.j.now c.args.task c.in-Ok.d c.in-Ok.ensures.none c.in-Ok.ensures.value c.perform.ensures.answer

pub returns-in-Err-Fault-clause-answer : goal.returns-in-Err-Fault-clause-answer
returns-in-Err-Fault-clause-answer g c =
    let first = subst (λ (e : Refusal). Fails e (judged c.args.j.now).faults) c.in-Err-Fault.field-0-is c.in-Err-Fault.ensures in
    let line = subst (λ (f : Fault). IfOk c.fault.result (λ (a : Answer). a ≡ fault_answer f)) c.in-Err-Fault.fault-is c.fault.ensures in
    is_fault c.fault.result c.args.j.now c.args.task c.in-Err-Fault.fault first line

pub returns-in-Ok-clause-evaluated : goal.returns-in-Ok-clause-evaluated
returns-in-Ok-clause-evaluated g c =
    tree_of_document c.args.j.now c.args.task c.in-Ok.d _ _ c.in-Ok.ensures.none c.in-Ok.ensures.value c.perform.ensures.evaluated
