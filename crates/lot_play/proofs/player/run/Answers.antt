use Rattle.std.proofs.Common.{[], refl, sym, ap, inl, inr, subst, arith}
use Rattle.lot_play.specs.Count.{RoseBy}
use Rattle.lot_play.specs.Sink.{Gains}
use Rattle.lot_play.specs.Output.{Outcome, on_no_command, total_length}
use Rattle.lot_play.proofs.Evaluating.{of_document_asked, of_nothing_asked}
use Rattle.lot_play.proofs.Running.{takes_none, narrow, widen, known_one, no_command}
use Rattle.lot_play.proofs.player.run.Goals as goal

pub run_task-requires : goal.run_task-requires
run_task-requires g c = c.requires.serves _ _ c.in-Some.ensures.is 0 [] (omega arith)

pub returns-in-Some-clause-defined : goal.returns-in-Some-clause-defined
returns-in-Some-clause-defined g c = λ whole o out. c.run_task.ensures.ends.defined whole o (narrow _ _ _ _ o c.in-Some.ensures out)

pub returns-in-Some-clause-exists : goal.returns-in-Some-clause-exists
returns-in-Some-clause-exists g c = λ whole known.
    widen _ _ _ _ _ c.in-Some.ensures (c.run_task.ensures.ends.exists whole (known_one (g.F.Folder.state c.args.folder.now).content _ _ _ c.in-Some.ensures known))

pub returns-in-Some-clause-read_once : goal.returns-in-Some-clause-read_once
returns-in-Some-clause-read_once g c = λ judged o out. c.run_task.ensures.ends.read_once judged o (narrow _ _ _ _ o c.in-Some.ensures out)

pub returns-in-Some-clause-prefix : goal.returns-in-Some-clause-prefix
returns-in-Some-clause-prefix g c = λ short o out. c.run_task.ensures.ends.prefix short o (narrow _ _ _ _ o c.in-Some.ensures out)

pub returns-in-Some-clause-misused : goal.returns-in-Some-clause-misused
returns-in-Some-clause-misused g c = λ none. absurd (none _ _ c.in-Some.ensures.is)

pub returns-in-Some-clause-usage : goal.returns-in-Some-clause-usage
returns-in-Some-clause-usage g c = λ e. inr (_, _, c.in-Some.ensures.is, c.run_task.ensures.usage e)

pub returns-in-Some-clause-uncounted : goal.returns-in-Some-clause-uncounted
returns-in-Some-clause-uncounted g c = λ none. c.run_task.ensures.uncounted (λ frame. none (_, _, c.in-Some.ensures.is, frame))

pub returns-in-None-clause-defined : goal.returns-in-None-clause-defined
returns-in-None-clause-defined g c = λ whole o out.
    let e = no_command (g.F.Folder.state c.args.folder.now).content c.args.arguments.now o c.in-None.ensures out in
    (ap (λ (z : Outcome). z.answer.status) (sym e), subst (λ (z : Outcome). Gains (g.K.Sink.state c.args.out.now) (g.K.Sink.state c.args.out.now) z.answer.bytes) (sym e) (takes_none (g.K.Sink.state c.args.out.now)))

pub returns-in-None-clause-exists : goal.returns-in-None-clause-exists
returns-in-None-clause-exists g c = λ whole known. (_, on_no_command c.in-None.ensures refl, refl)

pub returns-in-None-clause-read_once : goal.returns-in-None-clause-read_once
returns-in-None-clause-read_once g c = λ judged o out.
    let e = no_command (g.F.Folder.state c.args.folder.now).content c.args.arguments.now o c.in-None.ensures out in
    subst (λ (z : Outcome). RoseBy (total_length z.read) (g.F.Folder.state c.args.folder.now).given (g.F.Folder.state c.args.folder.now).given) (sym e) (inl (omega arith))

pub returns-in-None-clause-usage : goal.returns-in-None-clause-usage
returns-in-None-clause-usage g c = λ e. inl c.in-None.ensures

pub returns-in-Some-clause-evaluated : goal.returns-in-Some-clause-evaluated
returns-in-Some-clause-evaluated g c =
    of_document_asked (g.F.Folder.state c.args.folder.now).content _ _ _ _ _ c.in-Some.ensures c.run_task.ensures.evaluated

pub returns-in-None-clause-evaluated : goal.returns-in-None-clause-evaluated
returns-in-None-clause-evaluated g c = λ document content task ask known. of_nothing_asked _ _ c.in-None.ensures document content task ask
