-- The bytes that a value may begin with.
use Rattle.std.proofs.Common.{◌≡◌, ◌⊎◌, ℕ, suc, Bool, true, false, List, [], ◌∷◌, ◌++◌, length, refl, sym, ◌∙◌, ap, subst, inl, inr, arith, encode_utf8}
use Rattle.std.proofs.lemmas.Str.{length-encode, len_utf8_bounds}
use Rattle.lot_json.specs.declared.tree.number.Number.{Number}
use Rattle.lot_json.specs.declared.tree.json.Json.{Json}
use Rattle.lot_json.specs.declared.tree.json.Json.TheVariants as tree
use Rattle.lot_json.specs.declared.machine.literal.Literal.{Literal}
use Rattle.lot_json.specs.declared.machine.literal.Literal.TheVariants as literal
use Rattle.lot_json.specs.NumberToken.{IsNumberToken, IsSign, IsWholePart}
use Rattle.lot_json.specs.Characters.{Spelling, unescaped, short, unit, pair, Characters, close, more}
use Rattle.lot_json.specs.NumberRest.{IsFirstNumberByte}
use Rattle.lot_json.specs.Grammar.{IsWhiteSpace, Value, null_value, true_value, false_value, number_value, text_value, array_value, object_value, Element, element_space, element_value, Items, Members}
use Rattle.lot_json.specs.Literal.{letters_of, value_of}
use Rattle.lot_json.specs.Residual.{object_of}
use Rattle.lot_json.proofs.Utf8.{heads}

-- A list that begins with a byte of this kind.
abbrev pub BeginsWith : (ℕ → Type 0) → List ℕ → Type 0
BeginsWith P b = (c : ℕ) × (t : List ℕ) × (b ≡ c ∷ t) × P c

whole_first : (sign whole fraction exponent b : List ℕ) (minus : Bool) → IsSign sign minus → IsWholePart whole → b ≡ sign ++ whole ++ fraction ++ exponent → BeginsWith IsFirstNumberByte b
whole_first sign whole fraction exponent b true is w e = (45, (whole ++ fraction) ++ exponent, e ∙ ap (λ (z : List ℕ). ((z ++ whole) ++ fraction) ++ exponent) is, inr refl)
whole_first sign [] fraction exponent b false is w e = absurd w
whole_first sign (c ∷ []) fraction exponent b false is w e = (c, fraction ++ exponent, e ∙ ap (λ (z : List ℕ). ((z ++ c ∷ []) ++ fraction) ++ exponent) is, inl w)
whole_first sign (c ∷ d ∷ cs) fraction exponent b false is w e = (c, ((d ∷ cs) ++ fraction) ++ exponent, e ∙ ap (λ (z : List ℕ). ((z ++ c ∷ d ∷ cs) ++ fraction) ++ exponent) is, inl (omega (arith, w.0), w.1))

pub number_first : (b : List ℕ) (m : Number) → IsNumberToken b m → BeginsWith IsFirstNumberByte b
number_first b m t = whole_first t.sign t.whole t.fraction t.exponent b t.minus t.is_sign t.is_whole t.spelled

-- A byte that a value may begin with.
abbrev pub IsFirst : ℕ → Type 0
IsFirst c = IsFirstNumberByte c ⊎ ((c ≡ 34) ⊎ ((c ≡ 91) ⊎ ((c ≡ 102) ⊎ ((c ≡ 110) ⊎ ((c ≡ 116) ⊎ (c ≡ 123))))))

pub value_first : (n : ℕ) (b : List ℕ) (y : Json) → Value n b y → BeginsWith IsFirst b
value_first n b y (null_value e is) = (110, 117 ∷ 108 ∷ 108 ∷ [], e, inr (inr (inr (inr (inl refl)))))
value_first n b y (true_value e is) = (116, 114 ∷ 117 ∷ 101 ∷ [], e, inr (inr (inr (inr (inr (inl refl))))))
value_first n b y (false_value e is) = (102, 97 ∷ 108 ∷ 115 ∷ 101 ∷ [], e, inr (inr (inr (inl refl))))
value_first n b y (number_value m t is) = let q = number_first b m t in (q.0, q.1, q.2, inl q.3)
value_first n b y (text_value r s h e is) = (34, r, e, inr (inl refl))
value_first n b y (array_value m r xs h d e is) = (91, r, e, inr (inr (inl refl)))
value_first n b y (object_value m r ps h d e is) = (123, r, e, inr (inr (inr (inr (inr (inr refl))))))

-- A value has one byte at least.
pub value_some : (n : ℕ) (y : Json) → Value n [] y → ⊥
value_some n y v = let q = value_first n [] y v in let e = q.2 in cc

pub element_some : (n : ℕ) (y : Json) → Element n [] y → ⊥
element_some n y (element_space c r sp h e) = cc
element_some n y (element_value v) = value_some n y v

-- A string has at least one byte after its quotation mark.
spelling_some : (c : ℕ) → Spelling [] c → ⊥
spelling_some c (unescaped u e) = let q : 0 ≡ length (encode_utf8 c) = ap length e in absurd (omega (arith, length-encode c, (len_utf8_bounds c).0))
spelling_some c (short d h e) = cc
spelling_some c (unit u h) = let e = u.2 in cc
spelling_some c (pair first second high low f h s l e is) = let q = f.2 in let k : [] ≡ first ++ second = e in let w : [] ≡ (92 ∷ 117 ∷ f.0) ++ second = e ∙ ap (λ (z : List ℕ). z ++ second) q in cc

pub characters_some : (s : List ℕ) → Characters [] s → ⊥
characters_some s (close e is) = cc
characters_some s (more [] r t c sp h e is) = spelling_some c sp
characters_some s (more (d ∷ p) r t c sp h e is) = cc

pub text_first : (t s : List ℕ) → Characters t s → (c : ℕ) × (r : List ℕ) × (t ≡ c ∷ r)
text_first [] s h = absurd (characters_some s h)
text_first (c ∷ r) s h = (c, r, refl)

-- How an element continues after its first byte c.
pub data Begins : ℕ → ℕ → List ℕ → Json → Type 0 where
  begins_space : {n c : ℕ} {t : List ℕ} {y : Json} → IsWhiteSpace c → Element n t y → Begins n c t y
  begins_literal : {n c : ℕ} {t : List ℕ} {y : Json} (w : Literal) → c ∷ t ≡ letters_of w → y ≡ value_of w → Begins n c t y
  begins_number : {n c : ℕ} {t : List ℕ} {y : Json} (m : Number) → IsFirstNumberByte c → IsNumberToken (c ∷ t) m → y ≡ tree.Number m → Begins n c t y
  begins_text : {n c : ℕ} {t : List ℕ} {y : Json} (s : List ℕ) → c ≡ 34 → Characters t s → y ≡ tree.Text s → Begins n c t y
  begins_array : {n c : ℕ} {t : List ℕ} {y : Json} (m : ℕ) (xs : List Json) → c ≡ 91 → n ≡ suc m → Items m t xs → y ≡ tree.Items xs → Begins n c t y
  begins_object : {n c : ℕ} {t : List ℕ} {y : Json} (m : ℕ) (ps : List (List ℕ × Json)) → c ≡ 123 → n ≡ suc m → Members m t ps → y ≡ object_of ps → Begins n c t y

pub element_begins : (n c : ℕ) (t : List ℕ) (y : Json) → Element n (c ∷ t) y → Begins n c t y
element_begins n c t y (element_space d r sp h e) = let k = heads e in begins_space (subst (λ (z : ℕ). IsWhiteSpace z) (sym k.0) sp) (subst (λ (z : List ℕ). Element n z y) (sym k.1) h)
element_begins n c t y (element_value (null_value e is)) = begins_literal literal.Null e is
element_begins n c t y (element_value (true_value e is)) = begins_literal literal.True e is
element_begins n c t y (element_value (false_value e is)) = begins_literal literal.False e is
element_begins n c t y (element_value (number_value m h is)) = let q = number_first (c ∷ t) m h in begins_number m (subst (λ (z : ℕ). IsFirstNumberByte z) (sym (heads q.2).0) q.3) h is
element_begins n c t y (element_value (text_value r s h e is)) = let k = heads e in begins_text s k.0 (subst (λ (z : List ℕ). Characters z s) (sym k.1) h) is
element_begins n c t y (element_value (array_value m r xs h d e is)) = let k = heads e in begins_array m xs k.0 d (subst (λ (z : List ℕ). Items m z xs) (sym k.1) h) is
element_begins n c t y (element_value (object_value m r ps h d e is)) = let k = heads e in begins_object m ps k.0 d (subst (λ (z : List ℕ). Members m z ps) (sym k.1) h) is

-- The first letter of a literal name.
abbrev pub letter_of : Literal → ℕ
letter_of literal.Null = 110
letter_of literal.True = 116
letter_of literal.False = 102

pub literal_first : (w : Literal) (c : ℕ) (t : List ℕ) → c ∷ t ≡ letters_of w → (c ≡ 102) ⊎ ((c ≡ 110) ⊎ (c ≡ 116))
literal_first literal.Null c t e = inr (inl (heads e).0)
literal_first literal.True c t e = inr (inr (heads e).0)
literal_first literal.False c t e = inl (heads e).0
