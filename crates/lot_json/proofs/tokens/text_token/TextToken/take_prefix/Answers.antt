use Rattle.std.proofs.Common.{◌≡◌, ◌<◌, ◌+◌, List, ℕ, length, take, get_or, sym, subst, arith}
use Rattle.std.proofs.lemmas.List.{take_all}
use Rattle.lot_json.specs.declared.progress.Progress.{Progress}
use Rattle.lot_json.specs.declared.progress.Progress.TheVariants as progress
use Rattle.lot_json.specs.TextRest.{TakesRun, TakesByte, TakesPrefix}
use Rattle.lot_json.proofs.UnescapedRuns.{takes_nothing}
use Rattle.lot_json.proofs.TextPrefixes.{run_within, run_after, byte_after}
use Rattle.lot_json.proofs.tokens.text_token.TextToken.take_prefix.Goals as goal

pub loop-at-init : goal.loop-at-init
loop-at-init c = record { run = takes_nothing c.args.self.now; within = omega arith }

pub returns-then-at-bytes : goal.returns-then-at-bytes
returns-then-at-bytes c =
    let bytes = c.args.bytes.now in
    let n = c.loop-at.at + c.in_ok-run.run' in
    let all : n ≡ length bytes = c.if-at-bytes.true in (
      all,
      subst (λ (z : List ℕ). TakesRun z c.args.self.now c.take_unescaped.new.self) (take_all n bytes (omega (arith, all)))
          (run_after c.loop-at.at c.in_ok-run.run' bytes c.args.self.now c.loop-at.self c.take_unescaped.new.self c.loop-at.invariant.run c.in_ok-run.ensures.takes),
    )

pub loop-at-preserved : goal.loop-at-preserved
loop-at-preserved c =
    let bytes = c.args.bytes.now in
    let n = c.loop-at.at + c.in_ok-run.run' in
    let within = run_within c.loop-at.at c.in_ok-run.run' bytes c.loop-at.invariant.within c.in_ok-run.ensures.within in
    let next : n < length bytes = omega (arith, within, c.if-at-bytes.false) in
    let run = run_after c.loop-at.at c.in_ok-run.run' bytes c.args.self.now c.loop-at.self c.take_unescaped.new.self c.loop-at.invariant.run c.in_ok-run.ensures.takes in
    let byte : TakesByte (get_or bytes n 0) n (progress.Continues c.in-Continues.next) c.take_unescaped.new.self c.take_byte.new.self =
    subst (λ (z : Progress). TakesByte (get_or bytes n 0) n z c.take_unescaped.new.self c.take_byte.new.self) c.in-Continues.is c.in_ok-next.ensures in
    record {
      run = subst (λ (z : ℕ). TakesRun (take z bytes) c.args.self.now c.take_byte.new.self) (sym byte.0)
          (byte_after n bytes c.args.self.now c.take_unescaped.new.self c.take_byte.new.self next run byte.1);
      within = omega (arith, next, byte.0);
    }

pub returns-in-Ends : goal.returns-in-Ends
returns-in-Ends c =
    let bytes = c.args.bytes.now in
    let n = c.loop-at.at + c.in_ok-run.run' in
    let within = run_within c.loop-at.at c.in_ok-run.run' bytes c.loop-at.invariant.within c.in_ok-run.ensures.within in
    let byte : TakesByte (get_or bytes n 0) n (progress.Ends c.in-Ends.end) c.take_unescaped.new.self c.take_byte.new.self =
    subst (λ (z : Progress). TakesByte (get_or bytes n 0) n z c.take_unescaped.new.self c.take_byte.new.self) c.in-Ends.is c.in_ok-next.ensures in
    subst (λ (z : ℕ). TakesPrefix bytes (progress.Ends z) c.args.self.now c.take_byte.new.self) (sym byte.0) (record {
      before = c.take_unescaped.new.self;
      within = omega (arith, within, c.if-at-bytes.false);
      run = run_after c.loop-at.at c.in_ok-run.run' bytes c.args.self.now c.loop-at.self c.take_unescaped.new.self c.loop-at.invariant.run c.in_ok-run.ensures.takes;
      byte = byte.1;
    })

pub returns-in-Rejects : goal.returns-in-Rejects
returns-in-Rejects c =
    let bytes = c.args.bytes.now in
    let n = c.loop-at.at + c.in_ok-run.run' in
    let within = run_within c.loop-at.at c.in_ok-run.run' bytes c.loop-at.invariant.within c.in_ok-run.ensures.within in
    let byte : TakesByte (get_or bytes n 0) n (progress.Rejects c.in-Rejects.end) c.take_unescaped.new.self c.take_byte.new.self =
    subst (λ (z : Progress). TakesByte (get_or bytes n 0) n z c.take_unescaped.new.self c.take_byte.new.self) c.in-Rejects.is c.in_ok-next.ensures in
    subst (λ (z : ℕ). TakesPrefix bytes (progress.Rejects z) c.args.self.now c.take_byte.new.self) (sym byte.0) (record {
      before = c.take_unescaped.new.self;
      within = omega (arith, within, c.if-at-bytes.false);
      run = run_after c.loop-at.at c.in_ok-run.run' bytes c.args.self.now c.loop-at.self c.take_unescaped.new.self c.loop-at.invariant.run c.in_ok-run.ensures.takes;
      byte = byte.1;
    })

pub returns : goal.returns
returns c =
    let bytes = c.args.bytes.now in
    let all : c.loop-at.at ≡ length bytes = omega (arith, c.loop-at.invariant.within, c.loop-at-test.false) in
    (all, subst (λ (z : List ℕ). TakesRun z c.args.self.now c.loop-at.self) (take_all c.loop-at.at bytes (omega (arith, all))) c.loop-at.invariant.run)
