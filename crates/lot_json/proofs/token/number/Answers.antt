use Rattle.std.proofs.Common.{rules, ◌↔◌, ℕ, ◌+◌, ◌^◌, ◌<◌, length, drop-cons, get_or, subst, arith, List, ◌∷◌}
use Rattle.lot_json.specs.declared.tree.number.Number.{Number}
use Rattle.lot_json.specs.NumberToken.{IsNumberToken}
use Rattle.lot_json.specs.NumberRest.{NumberRest}
use Rattle.lot_json.specs.NumberSteps.{IsRejectedFrom}
use Rattle.lot_json.proofs.NumberMoves.{HasRoom-le}
use Rattle.lot_json.proofs.EndMoves.{only_number, no_number}
use Rattle.std.proofs.Math.ListN.{drop_of_length-le}
use Rattle.lot_json.proofs.token.number.Goals as goal

pub returns-then-not-begin-clause-none : goal.returns-then-not-begin-clause-none
returns-then-not-begin-clause-none c =
    let none : (t : List ℕ) (m : Number) → IsNumberToken (c.in_ok-first.first.now ∷ t) m → ⊥ = search rules in
    λ m k. none c.in_ok-first.rest.now m (subst (λ (z : List ℕ). IsNumberToken z m) c.in_ok-first.ensures.cases.0 k)

pub take-requires : goal.take-requires
take-requires c =
    let short : length c.in_ok-first.rest.now < 2 ^ 63 = search rules in
    HasRoom-le (c.loop-c.c-index + 1) (2 ^ 63) _ (omega arith) c.loop-c.invariant.1

pub returns-then-not-take-clause-none : goal.returns-then-not-take-clause-none
returns-then-not-take-clause-none c =
    λ m k.
    let h : IsRejectedFrom (NumberRest c.loop-c.token) (get_or c.in_ok-first.rest.now c.loop-c.c-index 0) c.loop-c.token c.take.new.self = search rules in
    let e = drop-cons c.in_ok-first.rest.now c.loop-c.c-index 0 c.loop-c-test.true in
    h.rejects _ m (subst (λ (z : List ℕ). NumberRest c.loop-c.token z m) e ((c.loop-c.invariant.0 m).0 k))

pub returns-clause-only : goal.returns-clause-only
returns-clause-only c =
    let e = drop_of_length-le c.in_ok-first.rest.now c.loop-c-test.false in
    only_number c.args.bytes.now c.loop-c.token c.value.result (λ m. subst (λ (z : List ℕ). IsNumberToken c.args.bytes.now m ↔ NumberRest c.loop-c.token z m) e (c.loop-c.invariant.0 m)) c.value.ensures.whole

pub returns-clause-none : goal.returns-clause-none
returns-clause-none c =
    let e = drop_of_length-le c.in_ok-first.rest.now c.loop-c-test.false in
    no_number c.args.bytes.now c.loop-c.token c.value.result (λ m. subst (λ (z : List ℕ). IsNumberToken c.args.bytes.now m ↔ NumberRest c.loop-c.token z m) e (c.loop-c.invariant.0 m)) c.value.ensures.part
