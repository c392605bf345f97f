-- Strings and names that are read in one go.
use Rattle.std.proofs.Common.{◌≡◌, ◌↔◌, ◌-◌, ◌<◌, ℕ, List, [], ◌∷◌, ◌++◌, length, take, drop, get_or, refl, sym, ap, ◌∙◌, append_assoc, arith}
use Rattle.std.proofs.lemmas.List.{take_all}
use Rattle.std.specs.Str.{IsUtf8}
use Rattle.lot_json.specs.declared.tree.json.Json.TheVariants as tree
use Rattle.lot_json.specs.declared.machine.mode.Mode.TheVariants as mode
use Rattle.lot_json.specs.declared.machine.container.Container.{Container}
use Rattle.lot_json.specs.declared.tokens.character.Character.TheVariants.{Nothing}
use Rattle.lot_json.specs.declared.tokens.text_token.TextToken.{TextToken}
use Rattle.lot_json.specs.Characters.{Characters, close}
use Rattle.lot_json.specs.Unescaped.{AreUnescapedBytes}
use Rattle.lot_json.specs.TextRest.{TextRest, CanEndText, TakesRun, EndsString}
use Rattle.lot_json.specs.Pending.{State, at, state_in, with_name}
use Rattle.lot_json.specs.Pending as pending
use Rattle.lot_json.specs.Residual.{Transition, PlacesValue}
use Rattle.lot_json.proofs.Spellings.{quote}
use Rattle.lot_json.proofs.Texts.{rest_of_new, rest_ends}
use Rattle.lot_json.proofs.UnescapedRuns.{takes_run}
use Rattle.lot_json.proofs.Residual.{steps_within, steps_placed}
use Rattle.lot_json.proofs.Values.{value_text}
use Rattle.lot_json.proofs.TokenMoves.{text_can, text_run, text_ended}
use Rattle.lot_json.proofs.Within.{next_name, name_on, name_end}
use Rattle.lot_json.proofs.Advances.{then_steps}

-- A string of which these characters were read.
so_far : List ℕ → TextToken
so_far text = record { text = text; character = Nothing }

nothing_read : (t s : List ℕ) → Characters t s ↔ TextRest (so_far []) t s
unfolding so_far TextRest
nothing_read t s = rest_of_new [] refl t s

can_end : (text : List ℕ) → CanEndText (so_far text)
unfolding so_far TextRest
can_end text = (34 ∷ [], text ++ [], ([], close refl refl, refl))

ends : (text : List ℕ) → EndsString 34 (so_far text) (so_far text)
unfolding so_far TextRest
ends text = rest_ends (λ (t x : List ℕ). Characters (34 ∷ t) x) text quote

all_of : (text : List ℕ) → IsUtf8 text → AreUnescapedBytes text → TakesRun text (so_far []) (so_far text)
unfolding so_far
all_of text u h = takes_run Nothing [] text text refl refl u h

pub whole_text : (text : List ℕ) (stack : List Container) (new : State) → IsUtf8 text → AreUnescapedBytes text → PlacesValue (tree.Text text) stack new → Transition (34 ∷ (text ++ 34 ∷ [])) (at pending.Value stack) new
unfolding so_far
whole_text text stack new u h k =
    let p = at (pending.Text (so_far [])) stack in
    let q = at (pending.Text (so_far text)) stack in
    then_steps (34 ∷ []) (text ++ 34 ∷ []) (at pending.Value stack) p new
    (steps_within 34 pending.Value (pending.Text (so_far [])) stack (value_text (length stack) 34 (so_far []) refl nothing_read) (text_can (so_far []) (length stack) (can_end [])))
    (then_steps text (34 ∷ []) p q new (text_run text (so_far []) (so_far text) stack (all_of text u h))
    (steps_placed 34 (pending.Text (so_far text)) stack new (tree.Text text) (text_ended (so_far text) (so_far text) (length stack) 34 (ends text)) k))

pub whole_name : (name : List ℕ) (stack : List Container) → IsUtf8 name → AreUnescapedBytes name → Transition (34 ∷ (name ++ 34 ∷ [])) (state_in mode.NextMember stack) (state_in mode.Colon (with_name name stack))
unfolding so_far
whole_name name stack u h =
    let p = state_in (mode.Name (so_far [])) stack in
    let q = state_in (mode.Name (so_far name)) stack in
    let r = state_in mode.Colon (with_name name stack) in
    then_steps (34 ∷ []) (name ++ 34 ∷ []) (state_in mode.NextMember stack) p r (next_name 34 (so_far []) stack refl nothing_read (can_end []))
    (then_steps name (34 ∷ []) p q r (name_on name (so_far []) (so_far name) stack (all_of name u h)) (name_end 34 (so_far name) (so_far name) stack (ends name)))

-- The bytes after the opening quotation mark spell the text and the closing one.
pub spelled_whole : (bytes text rest : List ℕ) → 0 < length bytes → get_or bytes 0 0 ≡ 34 → take (length bytes - 1) (drop 1 bytes) ≡ text ++ 34 ∷ rest → bytes ≡ (34 ∷ (text ++ 34 ∷ [])) ++ rest
spelled_whole [] text rest l q e = absurd (omega (arith, l))
spelled_whole (c ∷ bytes) text rest l q e =
    let all : take (length (c ∷ bytes) - 1) bytes ≡ bytes = take_all (length (c ∷ bytes) - 1) bytes (omega arith) in
    ap (λ (z : ℕ). z ∷ bytes) q ∙ ap (λ (z : List ℕ). 34 ∷ z) (sym all ∙ e ∙ sym (append_assoc text (34 ∷ []) rest))
