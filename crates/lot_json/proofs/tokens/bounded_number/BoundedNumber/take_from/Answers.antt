use Rattle.std.proofs.Common.{ℕ, List, [], ◌∷◌, take, get_or, sym, subst, arith}
use Rattle.lot_json.specs.Pending as pending
use Rattle.lot_json.specs.Pending.{State, at}
use Rattle.lot_json.specs.Residual.{Transition}
use Rattle.lot_json.proofs.Residual.{steps_by}
use Rattle.lot_json.proofs.TokenMoves.{number_leads}
use Rattle.lot_json.proofs.Advances.{then_steps, one_more}
use Rattle.lot_json.proofs.tokens.bounded_number.BoundedNumber.take_from.Goals as goal

pub loop-at-preserved : goal.loop-at-preserved
loop-at-preserved c =
    let continues = rw c.if-not-branch.false at c.in_ok-take.ensures.continues in
    let byte = rw c.if-not-branch.false at c.in_ok-take.ensures.byte in
    let can_end = rw c.if-not-branch.false at c.in_ok-take.ensures.can_end in
    let bytes = c.args.bytes.now in
    let here = c.loop-at.at in
    let next = get_or bytes here 0 in
    record {
      steps = λ start stack h.
          let old = at (pending.Number c.loop-at.self) stack in
          let new = at (pending.Number c.take.new.self) stack in
          let step : Transition (next ∷ []) old new =
          steps_by next (pending.Number c.loop-at.self) stack (pending.Number c.take.new.self) stack (number_leads c.loop-at.self c.take.new.self next byte continues can_end stack) in
          subst (λ (z : List ℕ). Transition z start new) (sym (one_more bytes here c.loop-at-test.true)) (then_steps (take here bytes) (next ∷ []) start old new (c.loop-at.invariant.steps start stack h) step);
      from = omega (arith, c.loop-at.invariant.from);
      within = omega (arith, c.loop-at-test.true);
    }
