use Rattle.std.proofs.Common.{◌≡◌, ◌-◌, ℕ, Bool, true, false, [], ◌∷◌, length, refl, subst, arith}
use Rattle.std.specs.Bool.{OnTrue, OnFalse}
use Rattle.lot_json.specs.declared.machine.mode.Mode.{Mode}
use Rattle.lot_json.specs.declared.machine.machine.Machine.{Machine}
use Rattle.lot_json.specs.declared.machine.mode.Mode.TheVariants as mode
use Rattle.lot_json.specs.Pending as pending
use Rattle.lot_json.specs.declared.machine.literal.Literal.TheVariants as literal
use Rattle.lot_json.specs.Pending.{state_in, stack_of, state_of}
use Rattle.lot_json.specs.Residual.{Transition, IsRejected, ReadsByte}
use Rattle.lot_json.proofs.Residual.{steps_within, rejected_by, yes_of, no_of}
use Rattle.lot_json.proofs.Moves.{moves, rejected}
use Rattle.lot_json.proofs.Values.{IsOther, element_can, value_space, value_literal, literal_can, value_deep_array, value_deep_object, value_none}
use Rattle.lot_json.proofs.TokenMoves.{opens_array, opens_object}
use Rattle.lot_json.proofs.machine.machine.Machine.begin_other_value.Goals as goal

of_true : {b : Bool} {P : Type 0} → b ≡ true → OnTrue b P → P
of_true {b} {P} e h = subst (λ (z : Bool). OnTrue z P) e h

of_false : {b : Bool} {P : Type 0} → b ≡ false → OnFalse b P → P
of_false {b} {P} e h = subst (λ (z : Bool). OnFalse z P) e h

-- A bracket that opens what the inner mode reads, or that no JSON text continues with.
opened_or_full : (c : ℕ) (old new : Machine) (continues : Bool) (inner : Mode) → old.mode ≡ mode.Value → OnTrue continues (new.mode ≡ inner) → OnTrue continues (stack_of new ≡ stack_of old)
    → (continues ≡ true → Transition (c ∷ []) (state_in mode.Value (stack_of old)) (state_in inner (stack_of old))) → (continues ≡ false → IsRejected c (state_in mode.Value (stack_of old))) → ReadsByte continues c (state_of old) (state_of new)
opened_or_full c old new true inner e f k continues none = moves (c ∷ []) old new mode.Value inner (stack_of old) e f k (continues refl)
opened_or_full c old new false inner e f k continues none = rejected c old mode.Value e (none refl)

pub returns-then-is_white_space : goal.returns-then-is_white_space
returns-then-is_white_space c =
    let old = c.args.self.now in
    let n = length (stack_of old) in
    moves (c.args.c ∷ []) old old mode.Value mode.Value (stack_of old) c.requires.mode c.requires.mode refl
    (steps_within c.args.c pending.Value pending.Value (stack_of old) (value_space n c.args.c (yes_of _ _ c.is_white_space.ensures c.if-is_white_space.true)) (element_can (128 - n)))

pub returns-in-91 : goal.returns-in-91
returns-in-91 c =
    opened_or_full (c.args.c) c.args.self.now c.open.new.self c.open.result mode.Items c.requires.mode c.open.ensures.mode c.open.ensures.stack
    (λ e. opens_array c.args.c (stack_of c.args.self.now) c.in-91.is (of_true e c.open.ensures.few))
    (λ e. rejected_by c.args.c pending.Value (stack_of c.args.self.now) (value_deep_array (length (stack_of c.args.self.now)) c.args.c c.in-91.is (of_false e c.open.ensures.many)))

pub returns-in-123 : goal.returns-in-123
returns-in-123 c =
    opened_or_full (c.args.c) c.args.self.now c.open-in-123.new.self c.open-in-123.result mode.Members c.requires.mode c.open-in-123.ensures.mode c.open-in-123.ensures.stack
    (λ e. opens_object c.args.c (stack_of c.args.self.now) c.in-123.is (of_true e c.open-in-123.ensures.few))
    (λ e. rejected_by c.args.c pending.Value (stack_of c.args.self.now) (value_deep_object (length (stack_of c.args.self.now)) c.args.c c.in-123.is (of_false e c.open-in-123.ensures.many)))

pub returns-in-110 : goal.returns-in-110
returns-in-110 c =
    let old = c.args.self.now in
    let n = length (stack_of old) in
    moves (c.args.c ∷ []) old c.set_mode.new.self mode.Value (mode.Literal literal.Null 1) (stack_of old) c.requires.mode c.set_mode.ensures.turned c.set_mode.ensures.stack
    (steps_within c.args.c pending.Value (pending.Literal literal.Null 1) (stack_of old) (value_literal n c.args.c literal.Null c.in-110.is) (literal_can n literal.Null))

pub returns-in-116 : goal.returns-in-116
returns-in-116 c =
    let old = c.args.self.now in
    let n = length (stack_of old) in
    moves (c.args.c ∷ []) old c.set_mode-in-116.new.self mode.Value (mode.Literal literal.True 1) (stack_of old) c.requires.mode c.set_mode-in-116.ensures.turned c.set_mode-in-116.ensures.stack
    (steps_within c.args.c pending.Value (pending.Literal literal.True 1) (stack_of old) (value_literal n c.args.c literal.True c.in-116.is) (literal_can n literal.True))

pub returns-in-102 : goal.returns-in-102
returns-in-102 c =
    let old = c.args.self.now in
    let n = length (stack_of old) in
    moves (c.args.c ∷ []) old c.set_mode-in-102.new.self mode.Value (mode.Literal literal.False 1) (stack_of old) c.requires.mode c.set_mode-in-102.ensures.turned c.set_mode-in-102.ensures.stack
    (steps_within c.args.c pending.Value (pending.Literal literal.False 1) (stack_of old) (value_literal n c.args.c literal.False c.in-102.is) (literal_can n literal.False))

pub returns-in_default : goal.returns-in_default
returns-in_default c =
    let old = c.args.self.now in
    let other : IsOther c.args.c = record {
      space = no_of _ _ c.is_white_space.ensures c.if-is_white_space.false;
      array = omega arith;
      object = omega arith;
      text = c.requires.no_text;
      null_literal = omega arith;
      true_literal = omega arith;
      false_literal = omega arith;
    } in
    rejected c.args.c old mode.Value c.requires.mode (rejected_by c.args.c pending.Value (stack_of old) (value_none (length (stack_of old)) c.args.c other c.requires.no_number))
