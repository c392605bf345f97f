use Rattle.std.proofs.Common.{ap, arith, ◌≤◌, ◌-◌, length}
use Rattle.std.proofs.lemmas.List.{take_rest, length-drop}
use Rattle.lot_play.proofs.WriteLoop.{more_written, stays_written, on_err}
use Rattle.lot_play.proofs.writing.write_all.Goals as goal

pub returns-in_err-at-clause-prefix : goal.returns-in_err-at-clause-prefix
returns-in_err-at-clause-prefix g c =
    on_err _ c.from_residual.result (stays_written (g.K.Sink.state c.args.sink.now) (g.K.Sink.state c.loop-at.sink) (g.K.Sink.state c.write.new.self) _ _ c.loop-at.invariant c.in_err-at.ensures.refused)

pub loop-at-preserved : goal.loop-at-preserved
loop-at-preserved g c =
    let fits : c.in_ok-at.field-0 ≤ length c.args.bytes.now - c.loop-at.at = (let h = c.in_ok-at.ensures.within in let k = take_rest c.args.bytes.now c.loop-at.at in omega (arith, length-drop c.loop-at.at c.args.bytes.now, ap length k)) in
    more_written (g.K.Sink.state c.args.sink.now) (g.K.Sink.state c.loop-at.sink) (g.K.Sink.state c.write.new.self) _ _ _ _ c.loop-at.invariant (take_rest c.args.bytes.now c.loop-at.at) fits c.in_ok-at.ensures.takes c.write.ensures.later
