-- Where a value comes, and within a byte order mark: what a byte does.
use Rattle.std.proofs.Common.{◌≡◌, ◌↔◌, ◌⊎◌, ◌≢◌, ℕ, ◌-◌, ◌<◌, ◌≤◌, List, [], ◌∷◌, drop, refl, sym, ◌∙◌, ap, subst, inl, inr, arith}
use Rattle.lot_json.specs.declared.tree.number.Number.{Number}
use Rattle.lot_json.specs.declared.tokens.number_token.NumberToken.{NumberToken}
use Rattle.lot_json.specs.declared.tokens.text_token.TextToken.{TextToken}
use Rattle.lot_json.specs.declared.tree.json.Json.{Json}
use Rattle.lot_json.specs.declared.tree.json.Json.TheVariants as tree
use Rattle.lot_json.specs.Pending as pending
use Rattle.lot_json.specs.declared.machine.literal.Literal.{Literal}
use Rattle.lot_json.specs.declared.machine.literal.Literal.TheVariants as literal
use Rattle.lot_json.specs.NumberToken.{IsNumberToken}
use Rattle.lot_json.specs.Characters.{Characters}
use Rattle.lot_json.specs.NumberRest.{NumberRest, IsFirstNumberByte}
use Rattle.lot_json.specs.TextRest.{TextRest}
use Rattle.lot_json.specs.Grammar.{IsWhiteSpace, Value, null_value, true_value, false_value, number_value, text_value, array_value, object_value, Element, element_space, element_value, Items, items_close, Members, members_close}
use Rattle.lot_json.specs.Literal.{letters_of, value_of}
use Rattle.lot_json.specs.Residual.{Completes, object_of}
use Rattle.lot_json.proofs.Utf8.{heads}
use Rattle.lot_json.proofs.Residual.{Leads, Stops, CanComplete}
use Rattle.lot_json.proofs.Begins.{Begins, begins_space, begins_literal, begins_number, begins_text, begins_array, begins_object, element_begins, element_some, text_first, literal_first, letter_of}

pub element_can : (n : ℕ) → CanComplete (Element n)
element_can n = (110 ∷ 117 ∷ 108 ∷ 108 ∷ [], tree.Null, element_value (null_value refl refl))

pub items_can : (n : ℕ) → CanComplete (Completes pending.Items n)
items_can n = (93 ∷ [], tree.Items [], ([], items_close refl refl, refl))

pub members_can : (n : ℕ) → CanComplete (Completes pending.Members n)
members_can n = (125 ∷ [], object_of [], ([], members_close refl refl, refl))

-- White space.
space-ahead : (n c : ℕ) → IsWhiteSpace c → (t : List ℕ) (y : Json) → Begins n c t y → Element n t y
space-ahead n c sp t y (begins_space s h) = h
space-ahead n c sp t y (begins_literal w e is) = let q = literal_first w c t e in absurd (omega arith)
space-ahead n c sp t y (begins_number m f h is) = absurd (omega arith)
space-ahead n c sp t y (begins_text s e h is) = absurd (omega arith)
space-ahead n c sp t y (begins_array m xs e d h is) = absurd (omega arith)
space-ahead n c sp t y (begins_object m ps e d h is) = absurd (omega arith)

pub value_space : (n c : ℕ) → IsWhiteSpace c → Leads c (Completes pending.Value n) (Completes pending.Value n)
value_space n c sp = record {
  some = element_some (128 - n);
  ahead = λ t y h. space-ahead (128 - n) c sp t y (element_begins (128 - n) c t y h);
  back = λ t y h. element_space c t sp h refl;
}

-- The '[' of an array.
array-ahead : (n c : ℕ) → c ≡ 91 → n < 128 → (t : List ℕ) (y : Json) → Begins (128 - n) c t y → Completes pending.Items n t y
array-ahead n c a d t y (begins_space s h) = absurd (omega arith)
array-ahead n c a d t y (begins_literal w e is) = let q = literal_first w c t e in absurd (omega arith)
array-ahead n c a d t y (begins_number m f h is) = absurd (omega arith)
array-ahead n c a d t y (begins_text s e h is) = absurd (omega arith)
array-ahead n c a d t y (begins_array m xs e k h is) = let q : m ≡ 127 - n = omega arith in (xs, subst (λ (z : ℕ). Items z t xs) q h, is)
array-ahead n c a d t y (begins_object m ps e k h is) = absurd (omega arith)

pub value_array : (n c : ℕ) → c ≡ 91 → n < 128 → Leads c (Completes pending.Value n) (Completes pending.Items n)
value_array n c a d = record {
  some = element_some (128 - n);
  ahead = λ t y h. array-ahead n c a d t y (element_begins (128 - n) c t y h);
  back = λ t y h. element_value (array_value (127 - n) t h.0 h.1 (omega (arith, d)) (ap (λ (z : ℕ). z ∷ t) a) h.2);
}

array-deep : (n c : ℕ) → c ≡ 91 → 128 ≤ n → (t : List ℕ) (y : Json) → Begins (128 - n) c t y → ⊥
array-deep n c a d t y (begins_space s h) = omega arith
array-deep n c a d t y (begins_literal w e is) = let q = literal_first w c t e in omega arith
array-deep n c a d t y (begins_number m f h is) = omega arith
array-deep n c a d t y (begins_text s e h is) = omega arith
array-deep n c a d t y (begins_array m xs e k h is) = omega arith
array-deep n c a d t y (begins_object m ps e k h is) = omega arith

pub value_deep_array : (n c : ℕ) → c ≡ 91 → 128 ≤ n → Stops c (Completes pending.Value n)
value_deep_array n c a d = record {
  some = element_some (128 - n);
  none = λ t y h. array-deep n c a d t y (element_begins (128 - n) c t y h);
}

-- The '{' of an object.
object-ahead : (n c : ℕ) → c ≡ 123 → n < 128 → (t : List ℕ) (y : Json) → Begins (128 - n) c t y → Completes pending.Members n t y
object-ahead n c a d t y (begins_space s h) = absurd (omega arith)
object-ahead n c a d t y (begins_literal w e is) = let q = literal_first w c t e in absurd (omega arith)
object-ahead n c a d t y (begins_number m f h is) = absurd (omega arith)
object-ahead n c a d t y (begins_text s e h is) = absurd (omega arith)
object-ahead n c a d t y (begins_array m xs e k h is) = absurd (omega arith)
object-ahead n c a d t y (begins_object m ps e k h is) = let q : m ≡ 127 - n = omega arith in (ps, subst (λ (z : ℕ). Members z t ps) q h, is)

pub value_object : (n c : ℕ) → c ≡ 123 → n < 128 → Leads c (Completes pending.Value n) (Completes pending.Members n)
value_object n c a d = record {
  some = element_some (128 - n);
  ahead = λ t y h. object-ahead n c a d t y (element_begins (128 - n) c t y h);
  back = λ t y h. element_value (object_value (127 - n) t h.0 h.1 (omega (arith, d)) (ap (λ (z : ℕ). z ∷ t) a) h.2);
}

object-deep : (n c : ℕ) → c ≡ 123 → 128 ≤ n → (t : List ℕ) (y : Json) → Begins (128 - n) c t y → ⊥
object-deep n c a d t y (begins_space s h) = omega arith
object-deep n c a d t y (begins_literal w e is) = let q = literal_first w c t e in omega arith
object-deep n c a d t y (begins_number m f h is) = omega arith
object-deep n c a d t y (begins_text s e h is) = omega arith
object-deep n c a d t y (begins_array m xs e k h is) = omega arith
object-deep n c a d t y (begins_object m ps e k h is) = omega arith

pub value_deep_object : (n c : ℕ) → c ≡ 123 → 128 ≤ n → Stops c (Completes pending.Value n)
value_deep_object n c a d = record {
  some = element_some (128 - n);
  none = λ t y h. object-deep n c a d t y (element_begins (128 - n) c t y h);
}

-- The quotation mark of a string.
text-ahead : (n c : ℕ) (token : TextToken) → c ≡ 34 → ((t s : List ℕ) → Characters t s ↔ TextRest token t s) → (t : List ℕ) (y : Json) → Begins (128 - n) c t y → Completes (pending.Text token) n t y
text-ahead n c token a k t y (begins_space s h) = absurd (omega arith)
text-ahead n c token a k t y (begins_literal w e is) = let q = literal_first w c t e in absurd (omega arith)
text-ahead n c token a k t y (begins_number m f h is) = absurd (omega arith)
text-ahead n c token a k t y (begins_text s e h is) = let q = text_first t s h in (s, (q.0, q.1, q.2, (k t s).0 h), is)
text-ahead n c token a k t y (begins_array m xs e d h is) = absurd (omega arith)
text-ahead n c token a k t y (begins_object m ps e d h is) = absurd (omega arith)

pub value_text : (n c : ℕ) (token : TextToken) → c ≡ 34 → ((t s : List ℕ) → Characters t s ↔ TextRest token t s) → Leads c (Completes pending.Value n) (Completes (pending.Text token) n)
value_text n c token a k = record {
  some = element_some (128 - n);
  ahead = λ t y h. text-ahead n c token a k t y (element_begins (128 - n) c t y h);
  back = λ t y h. element_value (text_value t h.0 ((k t h.0).1 h.1.3) (ap (λ (z : ℕ). z ∷ t) a) h.2);
}

-- The first letter of a literal name.
same_literal : (v w : Literal) (t : List ℕ) → letter_of v ∷ t ≡ letters_of w → (v ≡ w) × (t ≡ drop 1 (letters_of w))
same_literal literal.Null literal.Null t e = (refl, (heads e).1)
same_literal literal.Null literal.True t e = let q = (heads e).0 in absurd (omega arith)
same_literal literal.Null literal.False t e = let q = (heads e).0 in absurd (omega arith)
same_literal literal.True literal.Null t e = let q = (heads e).0 in absurd (omega arith)
same_literal literal.True literal.True t e = (refl, (heads e).1)
same_literal literal.True literal.False t e = let q = (heads e).0 in absurd (omega arith)
same_literal literal.False literal.Null t e = let q = (heads e).0 in absurd (omega arith)
same_literal literal.False literal.True t e = let q = (heads e).0 in absurd (omega arith)
same_literal literal.False literal.False t e = (refl, (heads e).1)

rest_of_literal : (w : Literal) → (d : ℕ) × (t : List ℕ) × (drop 1 (letters_of w) ≡ d ∷ t) × (letter_of w ∷ drop 1 (letters_of w) ≡ letters_of w)
rest_of_literal literal.Null = (117, 108 ∷ 108 ∷ [], refl, refl)
rest_of_literal literal.True = (114, 117 ∷ 101 ∷ [], refl, refl)
rest_of_literal literal.False = (97, 108 ∷ 115 ∷ 101 ∷ [], refl, refl)

letter_is : (w : Literal) → (letter_of w ≡ 102) ⊎ ((letter_of w ≡ 110) ⊎ (letter_of w ≡ 116))
letter_is literal.Null = inr (inl refl)
letter_is literal.True = inr (inr refl)
letter_is literal.False = inl refl

literal-ahead : (n c : ℕ) (w : Literal) → c ≡ letter_of w → (t : List ℕ) (y : Json) → Begins (128 - n) c t y → Completes (pending.Literal w 1) n t y
literal-ahead n c w a t y (begins_space s h) = let q = letter_is w in absurd (omega arith)
literal-ahead n c w a t y (begins_literal v e is) =
    let k = same_literal w v t (ap (λ (z : ℕ). z ∷ t) (sym a) ∙ e) in
    let b : t ≡ drop 1 (letters_of w) = k.1 ∙ ap (λ (z : Literal). drop 1 (letters_of z)) (sym k.0) in
    let q = rest_of_literal w in
    (q.0, q.1, b ∙ q.2, b, is ∙ ap value_of (sym k.0))
literal-ahead n c w a t y (begins_number m f h is) = let q = letter_is w in absurd (omega arith)
literal-ahead n c w a t y (begins_text s e h is) = let q = letter_is w in absurd (omega arith)
literal-ahead n c w a t y (begins_array m xs e d h is) = let q = letter_is w in absurd (omega arith)
literal-ahead n c w a t y (begins_object m ps e d h is) = let q = letter_is w in absurd (omega arith)

literal_value : (n : ℕ) (w : Literal) (b : List ℕ) (y : Json) → b ≡ letters_of w → y ≡ value_of w → Value n b y
literal_value n literal.Null b y e is = null_value e is
literal_value n literal.True b y e is = true_value e is
literal_value n literal.False b y e is = false_value e is

pub value_literal : (n c : ℕ) (w : Literal) → c ≡ letter_of w → Leads c (Completes pending.Value n) (Completes (pending.Literal w 1) n)
value_literal n c w a = record {
  some = element_some (128 - n);
  ahead = λ t y h. literal-ahead n c w a t y (element_begins (128 - n) c t y h);
  back = λ t y h. element_value (literal_value (128 - n) w (c ∷ t) y (ap (λ (z : ℕ). z ∷ t) a ∙ ap (λ (z : List ℕ). letter_of w ∷ z) h.3 ∙ (rest_of_literal w).3) h.4);
}

pub literal_can : (n : ℕ) (w : Literal) → CanComplete (Completes (pending.Literal w 1) n)
literal_can n w = let q = rest_of_literal w in (drop 1 (letters_of w), value_of w, (q.0, q.1, q.2, refl, refl))

-- The first byte of a number.
number-ahead : (n c : ℕ) (token : NumberToken) → IsFirstNumberByte c → ((t : List ℕ) (m : Number) → IsNumberToken (c ∷ t) m ↔ NumberRest token t m) → (t : List ℕ) (y : Json) → Begins (128 - n) c t y → Completes (pending.Number token) n t y
number-ahead n c token a k t y (begins_space s h) = absurd (omega arith)
number-ahead n c token a k t y (begins_literal w e is) = let q = literal_first w c t e in absurd (omega arith)
number-ahead n c token a k t y (begins_number m f h is) = (m, (k t m).0 h, is)
number-ahead n c token a k t y (begins_text s e h is) = absurd (omega arith)
number-ahead n c token a k t y (begins_array m xs e d h is) = absurd (omega arith)
number-ahead n c token a k t y (begins_object m ps e d h is) = absurd (omega arith)

pub value_number : (n c : ℕ) (token : NumberToken) → IsFirstNumberByte c → ((t : List ℕ) (m : Number) → IsNumberToken (c ∷ t) m ↔ NumberRest token t m) → Leads c (Completes pending.Value n) (Completes (pending.Number token) n)
value_number n c token a k = record {
  some = element_some (128 - n);
  ahead = λ t y h. number-ahead n c token a k t y (element_begins (128 - n) c t y h);
  back = λ t y h. element_value (number_value h.0 ((k t h.0).1 h.1) h.2);
}

-- Any other byte.
pub record IsOther (c : ℕ) : Type 0 where
  pub space : IsWhiteSpace c → ⊥
  pub array : c ≢ 91
  pub object : c ≢ 123
  pub text : c ≢ 34
  pub null_literal : c ≢ 110
  pub true_literal : c ≢ 116
  pub false_literal : c ≢ 102

other-none : (n c : ℕ) → IsOther c → ((t : List ℕ) (m : Number) → IsNumberToken (c ∷ t) m → ⊥) → (t : List ℕ) (y : Json) → Begins (128 - n) c t y → ⊥
other-none n c o k t y (begins_space s h) = o.space s
other-none n c o k t y (begins_literal w e is) = let q = literal_first w c t e in omega (arith, o.null_literal, o.true_literal, o.false_literal)
other-none n c o k t y (begins_number m f h is) = k t m h
other-none n c o k t y (begins_text s e h is) = o.text e
other-none n c o k t y (begins_array m xs e d h is) = o.array e
other-none n c o k t y (begins_object m ps e d h is) = o.object e

pub value_none : (n c : ℕ) → IsOther c → ((t : List ℕ) (m : Number) → IsNumberToken (c ∷ t) m → ⊥) → Stops c (Completes pending.Value n)
value_none n c o k = record {
  some = element_some (128 - n);
  none = λ t y h. other-none n c o k t y (element_begins (128 - n) c t y h);
}
