use Rattle.std.proofs.Common.{refl, subst, List, ℕ}
use Rattle.lot_play.specs.Sink.{Gains, GainsPrefix}
use Rattle.lot_play.specs.Run.{all_written, write_failed, no_memory}
use Rattle.lot_play.proofs.player.write_answer.Goals as goal

pub returns-in-Ok-clause-written : goal.returns-in-Ok-clause-written
returns-in-Ok-clause-written g c = all_written refl (subst (λ (b : List ℕ). Gains (g.K.Sink.state c.args.out.now) (g.K.Sink.state c.write_all.new.sink) b) c.as_slice.ensures c.in-Ok.ensures.all)

pub returns-in-Err-Failed-clause-written : goal.returns-in-Err-Failed-clause-written
returns-in-Err-Failed-clause-written g c = write_failed refl (c.in-Err-Failed.ensures.failed (cc)) (subst (λ (b : List ℕ). GainsPrefix (g.K.Sink.state c.args.out.now) (g.K.Sink.state c.write_all.new.sink) b) c.as_slice.ensures c.in-Err-Failed.ensures.prefix)

pub returns-in-Err-Memory-clause-written : goal.returns-in-Err-Memory-clause-written
returns-in-Err-Memory-clause-written g c = no_memory refl (subst (λ (b : List ℕ). GainsPrefix (g.K.Sink.state c.args.out.now) (g.K.Sink.state c.write_all.new.sink) b) c.as_slice.ensures c.in-Err-Memory.ensures.prefix)
