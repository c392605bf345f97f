use Rattle.std.proofs.Common.{subst, List, ℕ, ◌∙◌}
use Rattle.lot_play.specs.Evaluations.{EvaluatesOnce}
use Rattle.lot_play.specs.Judge.{IsOnlyAnswer}
use Rattle.lot_play.proofs.Running.{ends_too_long, ends_written}
use Rattle.lot_play.proofs.player.run_task.Goals as goal

pub returns-in-Err-TooLong-clause-ends : goal.returns-in-Err-TooLong-clause-ends
returns-in-Err-TooLong-clause-ends g c = ends_too_long _ _ _ (c.in-Err-TooLong.ensures.long (cc)) _ _ _ (c.in-Err-TooLong.ensures.long_given (cc))

pub returns-in-Ok-judge-clause-ends : goal.returns-in-Ok-judge-clause-ends
returns-in-Ok-judge-clause-ends g c =
    ends_written _ _ _ c.in-Ok.content c.in-Ok-judge.answer c.in-Ok.ensures.content c.in-Ok.ensures.short
    (subst (λ (z : List ℕ). IsOnlyAnswer z c.args.task c.in-Ok-judge.answer) c.as_slice.ensures c.in-Ok-judge.ensures.answer) _ _ _ _ c.in-Ok.ensures.once
    _ c.in-Ok-judge.ensures.judged (λ e. (c.in-Ok-judge.ensures.usage e).1) c.write_answer.ensures.written

pub returns-in-Ok-judge-clause-evaluated : goal.returns-in-Ok-judge-clause-evaluated
returns-in-Ok-judge-clause-evaluated g c = λ content known.
    subst (λ (z : List ℕ). EvaluatesOnce z c.args.task c.args.steps.now c.judge.new.steps)
    (c.as_slice.ensures ∙ c.in-Ok.ensures.content content known) c.judge.ensures.evaluated
