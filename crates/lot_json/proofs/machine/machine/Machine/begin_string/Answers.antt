use Rattle.std.proofs.Common.{◌+◌, ℕ, List, [], ◌∷◌, ◌++◌, length, length-append, get_or, refl, subst, arith}
use Rattle.lot_json.specs.declared.tree.json.Json.TheVariants as tree
use Rattle.lot_json.specs.declared.machine.mode.Mode.TheVariants as mode
use Rattle.lot_json.specs.Pending as pending
use Rattle.lot_json.specs.Pending.{at, stack_of, state_of}
use Rattle.lot_json.specs.Residual.{PlacesValue}
use Rattle.lot_json.proofs.Residual.{steps_within}
use Rattle.lot_json.proofs.Moves.{moves, leaves}
use Rattle.lot_json.proofs.Values.{value_text}
use Rattle.lot_json.proofs.TokenMoves.{text_can}
use Rattle.lot_json.proofs.WholeTokens.{spelled_whole, whole_text}
use Rattle.lot_json.proofs.Advances.{prefix_continues, first_continues}
use Rattle.lot_json.proofs.machine.machine.Machine.begin_string.Goals as goal

pub returns-in_ok-place_value-in-Some : goal.returns-in_ok-place_value-in-Some
returns-in_ok-place_value-in-Some c =
    let old = c.args.self.now in
    let stack = stack_of old in
    let text = c.in-Some.text.now in
    let bytes = c.args.bytes.now in
    let spelled = c.in-Some.ensures.spelled in
    prefix_continues (length text + 2) bytes (34 ∷ (text ++ 34 ∷ [])) spelled.0 (state_of old) (state_of c.place_value.new.self) (spelled_whole bytes text spelled.0 c.requires.some c.requires.quote spelled.1)
    (let l = length-append text (34 ∷ []) in omega (arith, l)) (omega arith)
    (leaves (34 ∷ (text ++ 34 ∷ [])) old mode.Value stack (state_of c.place_value.new.self) c.requires.mode refl
    (whole_text text stack (state_of c.place_value.new.self) c.in-Some.ensures.utf8 c.in-Some.ensures.unescaped
    (subst (λ (z : List ℕ). PlacesValue (tree.Text z) stack (state_of c.place_value.new.self)) c.in_ok-of-in-Some.ensures c.in_ok-place_value-in-Some.ensures.places)))

pub returns-in-None : goal.returns-in-None
returns-in-None c =
    let old = c.args.self.now in
    let stack = stack_of old in
    let first = get_or c.args.bytes.now 0 0 in
    first_continues c.args.bytes.now (state_of old) (state_of c.set_mode.new.self) c.requires.some
    (moves (first ∷ []) old c.set_mode.new.self mode.Value (mode.Text c.new.result) stack c.requires.mode c.set_mode.ensures.turned c.set_mode.ensures.stack
    (steps_within first pending.Value (pending.Text c.new.result) stack (value_text (length stack) first c.new.result c.requires.quote c.new.ensures.begins) (text_can c.new.result (length stack) c.new.ensures.can_end)))
