-- A string that has not ended needs more bytes.
use Rattle.std.proofs.Common.{◌≡◌, ℕ, zero, suc, List, [], ◌∷◌, ◌++◌, ap, ◌∙◌, append_assoc}
use Rattle.std.specs.Char.{encode_utf8}
use Rattle.lot_json.specs.declared.tokens.character.Character.{Character}
use Rattle.lot_json.specs.declared.tokens.character.Character.TheVariants.{Nothing, Backslash, Unit, High, HighBackslash, Low, Bytes}
use Rattle.lot_json.specs.declared.tokens.code_unit.DigitPlace.{DigitPlace}
use Rattle.lot_json.specs.declared.tokens.code_unit.DigitPlace.TheVariants.{First, Second, Third, Fourth}
use Rattle.lot_json.specs.declared.tokens.text_token.TextToken.{TextToken}
use Rattle.lot_json.specs.Characters.{Characters, close, more, unescaped, short, unit, pair, Spelling, IsUnit}
use Rattle.lot_json.specs.CodeUnit.{Digits, AfterHigh, digits_left}
use Rattle.lot_json.specs.ByteSequence.{Continues, bytes_after}
use Rattle.lot_json.specs.Character.{CharacterRest}
use Rattle.lot_json.specs.TextRest.{TextRest}
use Rattle.lot_json.proofs.Utf8.{Shape, one, two, three, four, shape}
use Rattle.lot_json.proofs.Spellings.{Escape, letter, digits, escape_ahead}

encoded : (c : ℕ) (r : List ℕ) → Shape c → [] ≡ encode_utf8 c ++ r → ⊥
encoded c r (one k e) h = let g = h ∙ ap (λ (z : List ℕ). z ++ r) e in cc
encoded c r (two a b k m f s e) h = let g = h ∙ ap (λ (z : List ℕ). z ++ r) e in cc
encoded c r (three a b d k m f i s e) h = let g = h ∙ ap (λ (z : List ℕ). z ++ r) e in cc
encoded c r (four a b d y k m f i j s e) h = let g = h ∙ ap (λ (z : List ℕ). z ++ r) e in cc

unit_spelled : (b r : List ℕ) (u : ℕ) → IsUnit b u → [] ≡ b ++ r → ⊥
unit_spelled b r u (ds, f, e) h = let g = h ∙ ap (λ (z : List ℕ). z ++ r) e in cc

spelled : (b r : List ℕ) (c : ℕ) → Spelling b c → [] ≡ b ++ r → ⊥
spelled b r c (unescaped is e) h = encoded c r (shape c is.0) (h ∙ ap (λ (z : List ℕ). z ++ r) e)
spelled b r c (short l is e) h = let g = h ∙ ap (λ (z : List ℕ). z ++ r) e in cc
spelled b r c (unit is s) h = unit_spelled b r c is h
spelled b r c (pair first second high low f g s l e value) h = let i = h ∙ ap (λ (z : List ℕ). z ++ r) e in let j : [] ≡ first ++ (second ++ r) = (i ∙ simp append_assoc) in unit_spelled first (second ++ r) high f j

pub characters_need : (x : List ℕ) → Characters [] x → ⊥
characters_need x (close e s) = cc
characters_need x (more sp r y c is h split text) = spelled sp r c is split

escape_needs : (x : List ℕ) → Escape [] x → ⊥
escape_needs x (letter e c r is f h) = cc
escape_needs x (digits ds r u is f h) = cc

digits_need : (p : DigitPlace) (v : ℕ) (P : ℕ → List ℕ → Type 0) → Digits (digits_left p) v [] P → ⊥
digits_need First v P (d, w, r, is, e, h) = cc
digits_need Second v P (d, w, r, is, e, h) = cc
digits_need Third v P (d, w, r, is, e, h) = cc
digits_need Fourth v P (d, w, r, is, e, h) = cc

high_needs : (u : ℕ) (x : List ℕ) → AfterHigh u [] x → ⊥
high_needs u x (low, b, r, is, l, e, h) = unit_spelled b r low is e

backslash_needs : (u : ℕ) (x : List ℕ) → AfterHigh u (92 ∷ []) x → ⊥
backslash_needs u x (low, b, r, is, l, e, h) = let g = e ∙ ap (λ (z : List ℕ). z ++ r) is.2 in cc

bytes_need : (n v least most : ℕ) (x : List ℕ) → Continues n v least most [] x → ⊥
bytes_need zero v least most x h = let e = h.4 in cc
bytes_need (suc n) v least most x h = let e = h.4 in cc

part_needs : (p : Character) (x : List ℕ) → CharacterRest p [] x → ⊥
part_needs Nothing x h = characters_need x h
part_needs Backslash x h = escape_needs x (escape_ahead [] x h)
part_needs (Unit u) x h = digits_need u.next u.value _ h
part_needs (High u) x h = high_needs u.unit x h
part_needs (HighBackslash u) x h = backslash_needs u.unit x h
part_needs (Low u l) x h = digits_need l.next l.value _ h
part_needs (Bytes s) x h = bytes_need (bytes_after s.left) s.bits s.least s.most x h

-- No string ends without its closing quotation mark.
pub text_needs : (k : TextToken) (s : List ℕ) → TextRest k [] s → ⊥
unfolding TextRest
text_needs k s h = part_needs k.character h.0 h.1
