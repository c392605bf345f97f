use Rattle.std.proofs.Common.{◌≡◌, ℕ, subst, IfOk}
use Rattle.lot_json.specs.declared.refusal.JsonRefusal.{JsonRefusal}
use Rattle.lot_json.specs.Refusal.{IsNoText}
use Rattle.lot_play.specs.declared.answer.Answer.{Answer}
use Rattle.lot_play.specs.Output.{syntax_answer}
use Rattle.lot_play.proofs.Evaluating.{content_of_tree}
use Rattle.lot_play.proofs.Judging.{judges_tree, judges_no_text, tree_judged, tree_usage}
use Rattle.lot_play.proofs.judge.judge.Goals as goal

pub returns-in-Ok-clause-answer : goal.returns-in-Ok-clause-answer
returns-in-Ok-clause-answer g c = judges_tree c.judge_tree.result _ _ c.in-Ok.j c.in-Ok.ensures.only.text c.in-Ok.ensures.only.only c.judge_tree.ensures.answer

pub returns-in-Ok-clause-judged : goal.returns-in-Ok-clause-judged
returns-in-Ok-clause-judged g c = tree_judged c.judge_tree.result c.in-Ok.j c.args.task c.judge_tree.ensures.answer

pub returns-in-Ok-clause-usage : goal.returns-in-Ok-clause-usage
returns-in-Ok-clause-usage g c = tree_usage c.judge_tree.result c.in-Ok.j c.args.task c.judge_tree.ensures.answer

pub returns-in-Err-Syntax-clause-answer : goal.returns-in-Err-Syntax-clause-answer
returns-in-Err-Syntax-clause-answer g c =
    let fault = subst (λ (e : JsonRefusal). IsNoText e c.args.content.now) c.in-Err-Syntax.field-0-is c.in-Err-Syntax.ensures.refused in
    let line = subst (λ (k : ℕ). IfOk c.syntax.result (λ (a : Answer). a ≡ syntax_answer k)) c.in-Err-Syntax.offset-is c.syntax.ensures in
    judges_no_text c.syntax.result _ _ c.in-Err-Syntax.offset fault.none fault.far line

pub returns-in-Ok-clause-evaluated : goal.returns-in-Ok-clause-evaluated
returns-in-Ok-clause-evaluated g c =
    content_of_tree _ c.args.task c.in-Ok.j _ _ c.in-Ok.ensures.only.text c.in-Ok.ensures.only.only c.judge_tree.ensures.evaluated
