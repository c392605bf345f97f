use Rattle.std.proofs.Common.{List, ℕ, subst, arith}
use Rattle.lot_json.specs.TextRest.{TakesRun}
use Rattle.lot_json.proofs.UnescapedRuns.{takes_run, takes_nothing}
use Rattle.lot_json.proofs.tokens.text_token.TextToken.take_unescaped.Goals as goal

pub returns-in_default : goal.returns-in_default
returns-in_default c = record { within = omega arith; takes = takes_nothing c.args.self.now }

pub returns-then-is_empty-clause-takes : goal.returns-then-is_empty-clause-takes
returns-then-is_empty-clause-takes c = takes_nothing c.args.self.now

pub returns-clause-takes : goal.returns-clause-takes
returns-clause-takes c =
    let k = c.args.self.now in
    let run = c.unescaped_prefix-run in
    subst (λ (z : List ℕ). TakesRun z k (record { text = c.append.new.self; character = k.character })) run.ensures.prefix
    (takes_run k.character k.text c.append.new.self run.result.now c.in-Nothing.is c.in_ok-append.ensures.ok run.utf8 run.ensures.unescaped)
