-- How the escapes of a pointer's names go along with UTF-8.
use Rattle.std.proofs.Common.{◌≡◌, ◌≢◌, ℕ, ◌≤◌, ◌+◌, ◌/◌, ◌%◌, List, [], ◌∷◌, ◌++◌, refl, ap, ◌∙◌, sym, arith, append_assoc, cond, Bool, true, false, ltb}
use Rattle.std.proofs.lemmas.Bool.Decides.{nat_tests}
use Rattle.std.specs.Char.{encode_utf8}
use Rattle.lot_json.specs.Pointer.{escaped, escaped_byte}

pub escaped-append : (xs ys : List ℕ) → escaped (xs ++ ys) ≡ escaped xs ++ escaped ys
escaped-append [] ys = refl
escaped-append (x ∷ xs) ys = ap (λ (z : List ℕ). escaped_byte x ++ z) (escaped-append xs ys) ∙ sym (append_assoc (escaped_byte x) (escaped xs) (escaped ys))

-- A byte past ASCII is no '~' and no '/'.
past_ascii : (c : ℕ) → 128 ≤ c → escaped_byte c ≡ c ∷ []
past_ascii c h = grind (arith, nat_tests)

plain_byte : (c : ℕ) → c ≢ 126 → c ≢ 47 → escaped_byte c ≡ c ∷ []
plain_byte c not_tilde not_slash = grind (arith, nat_tests)

-- A byte before bytes that are not escaped.
before : (c : ℕ) (cs : List ℕ) → escaped_byte c ≡ c ∷ [] → escaped cs ≡ cs → escaped (c ∷ cs) ≡ c ∷ cs
before c cs e f = ap (λ (z : List ℕ). z ++ escaped cs) e ∙ ap (λ (z : List ℕ). c ∷ z) f

-- Two, three or four bytes past ASCII.
two : (a b : ℕ) → 128 ≤ a → 128 ≤ b → escaped (a ∷ b ∷ []) ≡ a ∷ b ∷ []
two a b ha hb = before a (b ∷ []) (past_ascii a ha) (before b [] (past_ascii b hb) refl)

three : (a b c : ℕ) → 128 ≤ a → 128 ≤ b → 128 ≤ c → escaped (a ∷ b ∷ c ∷ []) ≡ a ∷ b ∷ c ∷ []
three a b c ha hb hc = before a (b ∷ c ∷ []) (past_ascii a ha) (two b c hb hc)

four : (a b c d : ℕ) → 128 ≤ a → 128 ≤ b → 128 ≤ c → 128 ≤ d → escaped (a ∷ b ∷ c ∷ d ∷ []) ≡ a ∷ b ∷ c ∷ d ∷ []
four a b c d ha hb hc hd = before a (b ∷ c ∷ d ∷ []) (past_ascii a ha) (three b c d hb hc hd)

-- The bytes of a character by the three tests of its size.
abbrev bytes_by : Bool → Bool → Bool → ℕ → List ℕ
bytes_by one of_two of_three c =
    cond one (c ∷ []) (cond of_two ((192 + c / 64) ∷ (128 + c % 64) ∷ []) (cond of_three ((224 + c / 4096) ∷ (128 + c / 64 % 64) ∷ (128 + c % 64) ∷ [])
    ((240 + c / 262144) ∷ (128 + c / 4096 % 64) ∷ (128 + c / 64 % 64) ∷ (128 + c % 64) ∷ [])))

escaped-by : (one of_two of_three : Bool) (c : ℕ) → escaped_byte c ≡ c ∷ [] → escaped (bytes_by one of_two of_three c) ≡ bytes_by one of_two of_three c
escaped-by true of_two of_three c e = before c [] e refl
escaped-by false true of_three c e = two _ _ (omega arith) (omega arith)
escaped-by false false true c e = three _ _ _ (omega arith) (omega arith) (omega arith)
escaped-by false false false c e = four _ _ _ _ (omega arith) (omega arith) (omega arith) (omega arith)

-- A character that is no '~' and no '/' is written as it is.
pub escaped_plain : (c : ℕ) → c ≢ 126 → c ≢ 47 → escaped (encode_utf8 c) ≡ encode_utf8 c
unfolding encode_utf8
escaped_plain c not_tilde not_slash = escaped-by (ltb c 128) (ltb c 2048) (ltb c 65536) c (plain_byte c not_tilde not_slash)

-- A text of which the rest is left, and the text with one piece of the rest more.
pub escaped-more : (old new piece rest left whole : List ℕ) → new ≡ old ++ escaped piece → rest ≡ piece ++ left → old ++ escaped rest ≡ whole → new ++ escaped left ≡ whole
escaped-more old new piece rest left whole put is so_far =
    ap (λ (z : List ℕ). z ++ escaped left) put
    ∙ append_assoc old (escaped piece) (escaped left)
    ∙ ap (λ (z : List ℕ). old ++ z) (sym (escaped-append piece left))
    ∙ ap (λ (z : List ℕ). old ++ escaped z) (sym is)
    ∙ so_far
