-- Within a literal name: what a byte does, by the letter that comes.
use Rattle.std.proofs.Common.{◌≡◌, ℕ, ◌+◌, ◌<◌, ◌≤◌, List, [], ◌∷◌, length, drop, get_or, drop-cons, drop_of_length-le, add-one, sym, ◌∙◌, ap, subst, arith}
use Rattle.lot_json.specs.declared.tree.json.Json.{Json}
use Rattle.lot_json.specs.Pending as pending
use Rattle.lot_json.specs.declared.machine.literal.Literal.{Literal}
use Rattle.lot_json.specs.Literal.{letters_of, value_of}
use Rattle.lot_json.specs.Residual.{Completes}
use Rattle.lot_json.proofs.Residual.{Leads, Ends, CanComplete}
use Rattle.lot_json.proofs.TokenMoves.{literal_leads, literal_goes_can, literal_ended}

-- The letters from the next one on.
next_letter : (w : Literal) (read : ℕ) (letters : List ℕ) → letters ≡ letters_of w → read < length letters → drop read (letters_of w) ≡ get_or letters read 0 ∷ drop (read + 1) (letters_of w)
next_letter w read letters e h = subst (λ (z : List ℕ). drop read z ≡ get_or letters read 0 ∷ drop (read + 1) z) e (drop-cons letters read 0 h ∙ ap (λ (z : ℕ). get_or letters read 0 ∷ drop z letters) (sym (add-one read)))

-- The letter comes that the literal name has there, and others follow.
pub literal_on : (w : Literal) (read n c : ℕ) (letters : List ℕ) → letters ≡ letters_of w → read + 1 < length letters → get_or letters read 0 ≡ c → Leads c (Completes (pending.Literal w read) n) (Completes (pending.Literal w (read + 1)) n)
literal_on w read n c letters e h a =
    literal_leads w read n c (get_or letters (read + 1) 0) (drop (read + 1 + 1) (letters_of w))
    (next_letter w read letters e (omega arith) ∙ ap (λ (z : ℕ). z ∷ drop (read + 1) (letters_of w)) a) (next_letter w (read + 1) letters e h)

pub literal_on_can : (w : Literal) (read n : ℕ) (letters : List ℕ) → letters ≡ letters_of w → read + 1 < length letters → CanComplete (Completes (pending.Literal w (read + 1)) n)
literal_on_can w read n letters e h = literal_goes_can w (read + 1) n (get_or letters (read + 1) 0) (drop (read + 1 + 1) (letters_of w)) (next_letter w (read + 1) letters e h)

-- The last letter comes.
pub literal_at_end : (w : Literal) (read n c : ℕ) (letters : List ℕ) (tree : Json) → letters ≡ letters_of w → read < length letters → length letters ≤ read + 1 → get_or letters read 0 ≡ c → tree ≡ value_of w → Ends c (Completes (pending.Literal w read) n) tree
literal_at_end w read n c letters tree e h k a is =
    let none : drop (read + 1) (letters_of w) ≡ [] = subst (λ (z : List ℕ). drop (read + 1) z ≡ []) e (drop_of_length-le letters k) in
    subst (λ (z : Json). Ends c (Completes (pending.Literal w read) n) z) (sym is)
    (literal_ended w read n c (next_letter w read letters e h ∙ ap (λ (z : ℕ). z ∷ drop (read + 1) (letters_of w)) a ∙ ap (λ (z : List ℕ). c ∷ z) none))
