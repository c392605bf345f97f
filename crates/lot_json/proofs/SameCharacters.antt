-- Characters end at one place, and their text is of one string.
use Rattle.std.proofs.Common.{◌≡◌, ℕ, ◌+◌, ◌-◌, ◌*◌, ◌≤◌, ◌<◌, ◌⊎◌, inl, inr, List, [], ◌∷◌, ◌++◌, ap, sym, ◌∙◌, refl, arith, append_assoc}
use Rattle.std.specs.Char.{IsScalar, encode_utf8}
use Rattle.std.proofs.Math.Utf8.{scalar_cases}
use Rattle.std.proofs.lemmas.Str.{encode_same}
use Rattle.lot_json.specs.Characters.{Characters, close, more, Spelling, unescaped, short, unit, pair, IsUnescaped, IsShortEscape, IsHexDigit, FourDigits, IsHighSurrogate}
use Rattle.lot_json.proofs.Utf8.{heads, shape, first_byte}
use Rattle.lot_json.proofs.Prefixes.{along, regroup}

-- ---- escapes

same_hex : (c d v w : ℕ) → IsHexDigit c v → IsHexDigit d w → c ≡ d → v ≡ w
same_hex c d v w h k e = omega (arith, h, k, e)

same_four : {f g : List ℕ} {u v : ℕ} (r q : List ℕ) → FourDigits f u → FourDigits g v → f ++ r ≡ g ++ q → (u ≡ v) × (r ≡ q)
same_four r q a b e =
    let h = heads (along r q a.spelled b.spelled e) in
    let i = heads h.1 in
    let j = heads i.1 in
    let k = heads j.1 in
    let w = same_hex _ _ _ _ a.first b.first h.0 in
    let x = same_hex _ _ _ _ a.second b.second i.0 in
    let y = same_hex _ _ _ _ a.third b.third j.0 in
    let z = same_hex _ _ _ _ a.fourth b.fourth k.0 in
    (omega (arith, a.value, b.value, w, x, y, z), k.1)

same_short : (l e c d : ℕ) → IsShortEscape l c → IsShortEscape e d → l ≡ e → c ≡ d
same_short l e c d h k s = omega (arith, h, k, s)

not_short : (l c : ℕ) → IsShortEscape l c → l ≡ 117 → ⊥
not_short l c h e = omega (arith, h, e)

not_high : {c u : ℕ} → IsScalar c → c ≡ u → IsHighSurrogate u → ⊥
not_high {c} {u} s e h = by (scalar_cases c s)
  where
    by : (c < 55296) ⊎ ((57344 ≤ c) × (c < 1114112)) → ⊥
    by (inl k) = omega (arith, h.0)
    by (inr k) = omega (arith, h.1, k.0)

not_escape : (c : ℕ) (r t : List ℕ) → IsUnescaped c → encode_utf8 c ++ r ≡ 92 ∷ t → ⊥
not_escape c r t is e = by (first_byte 92 c t r (shape c is.0) (sym e))
  where
    by : ((c < 128) × (92 ≡ c) × (t ≡ r)) ⊎ ((128 ≤ c) × (194 ≤ 92) × (92 ≤ 244)) → ⊥
    by (inl h) = is.3 (sym h.1)
    by (inr h) = omega (arith, h.1)

pub not_quote : (c : ℕ) (r t : List ℕ) → IsUnescaped c → encode_utf8 c ++ r ≡ 34 ∷ t → ⊥
not_quote c r t is e = by (first_byte 34 c t r (shape c is.0) (sym e))
  where
    by : ((c < 128) × (34 ≡ c) × (t ≡ r)) ⊎ ((128 ≤ c) × (194 ≤ 34) × (34 ≤ 244)) → ⊥
    by (inl h) = is.2 (sym h.1)
    by (inr h) = omega (arith, h.1)

-- ---- spellings

-- the text of a pair after its first two bytes
pair_text : {b f ds : List ℕ} (s : List ℕ) → b ≡ f ++ s → f ≡ 92 ∷ 117 ∷ ds → b ≡ 92 ∷ 117 ∷ (ds ++ s)
pair_text s e h = e ∙ ap (λ (z : List ℕ). z ++ s) h

-- the cut after two bytes
two_on : {a b c d : ℕ} {r q : List ℕ} → a ∷ b ∷ r ≡ c ∷ d ∷ q → (b ≡ d) × (r ≡ q)
two_on e = heads (heads e).1

pub same_spelling : {f g : List ℕ} {c d : ℕ} (r q : List ℕ) → Spelling f c → Spelling g d → f ++ r ≡ g ++ q → (c ≡ d) × (r ≡ q)
same_spelling r q (unescaped is e) (unescaped js h) s = encode_same _ _ r q (along r q e h s)
same_spelling r q (unescaped is e) (short l js h) s = absurd (not_escape _ r _ is (along r q e h s))
same_spelling r q (unescaped is e) (unit js z) s = absurd (not_escape _ r _ is (along r q e js.2 s))
same_spelling r q (unescaped is e) (pair first second u v k a l b h w) s = absurd (not_escape _ r _ is (along r q e (pair_text second h k.2) s))
same_spelling r q (short l js h) (unescaped is e) s = absurd (not_escape _ q _ is (along q r e h (sym s)))
same_spelling r q (short l is e) (short m js h) s = let i = two_on (along r q e h s) in (same_short l m _ _ is js i.0, i.1)
same_spelling r q (short l is e) (unit js z) s = absurd (not_short l _ is (two_on (along r q e js.2 s)).0)
same_spelling r q (short l is e) (pair first second u v k a m b h w) s = absurd (not_short l _ is (two_on (along r q e (pair_text second h k.2) s)).0)
same_spelling r q (unit js z) (unescaped is e) s = absurd (not_escape _ q _ is (along q r e js.2 (sym s)))
same_spelling r q (unit js z) (short l is e) s = absurd (not_short l _ is (two_on (along q r e js.2 (sym s))).0)
same_spelling r q (unit is z) (unit js y) s = same_four r q is.1 js.1 (two_on (along r q is.2 js.2 s)).1
same_spelling r q (unit is z) (pair first second u v k a m b h w) s =
    let i = same_four r (second ++ q) is.1 k.1 ((two_on (along r q is.2 (pair_text second h k.2) s)).1 ∙ append_assoc k.0 second q) in
    absurd (not_high z i.0 a)
same_spelling r q (pair first second u v k a m b h w) (unescaped is e) s = absurd (not_escape _ q _ is (along q r e (pair_text second h k.2) (sym s)))
same_spelling r q (pair first second u v k a m b h w) (short l is e) s = absurd (not_short l _ is (two_on (along q r e (pair_text second h k.2) (sym s))).0)
same_spelling r q (pair first second u v k a m b h w) (unit is z) s =
    let i = same_four q (second ++ r) is.1 k.1 ((two_on (along q r is.2 (pair_text second h k.2) (sym s))).1 ∙ append_assoc k.0 second r) in
    absurd (not_high z i.0 a)
same_spelling r q (pair first second u v k a m b h w) (pair first' second' u' v' k' a' m' b' h' w') s =
    let t = regroup k.0 k'.0 second second' r q (two_on (along r q (pair_text second h k.2) (pair_text second' h' k'.2) s)).1 in
    let i = same_four (second ++ r) (second' ++ q) k.1 k'.1 t in
    let j = same_four r q m.1 m'.1 (two_on (along r q m.2 m'.2 i.1)).1 in
    (w ∙ ap (λ (z : ℕ). 65536 + (z - 55296) * 1024 + (v - 56320)) i.0 ∙ ap (λ (z : ℕ). 65536 + (u' - 55296) * 1024 + (z - 56320)) j.0 ∙ sym w', j.1)

-- no spelling begins with the quotation mark
not_close : {f : List ℕ} {c : ℕ} (r t : List ℕ) → Spelling f c → f ++ r ≡ 34 ∷ t → ⊥
not_close r t (unescaped is e) s = not_quote _ r t is (sym (ap (λ (z : List ℕ). z ++ r) e) ∙ s)
not_close r t (short l is e) s = omega (arith, (heads (sym (ap (λ (z : List ℕ). z ++ r) e) ∙ s)).0)
not_close r t (unit is z) s = omega (arith, (heads (sym (ap (λ (z : List ℕ). z ++ r) is.2) ∙ s)).0)
not_close r t (pair first second u v k a m b h w) s = omega (arith, (heads (sym (ap (λ (z : List ℕ). z ++ r) (pair_text second h k.2)) ∙ s)).0)

-- ---- characters

pub same_characters : {f g x y : List ℕ} (r q : List ℕ) → Characters f x → Characters g y → f ++ r ≡ g ++ q → (x ≡ y) × (r ≡ q)
same_characters r q (close e h) (close d k) s = (h ∙ sym k, (heads (along r q e d s)).1)
same_characters r q (close e h) (more sp b y c is js d k) s = absurd (not_close (b ++ q) r is (sym (append_assoc sp b q) ∙ sym (along r q e d s)))
same_characters r q (more sp b y c is js d k) (close e h) s = absurd (not_close (b ++ r) q is (sym (append_assoc sp b r) ∙ along r q d e s))
same_characters r q (more sp b y c is js e h) (more sp' b' y' c' is' js' d k) s =
    let i = same_spelling (b ++ r) (b' ++ q) is is' (regroup sp sp' b b' r q (along r q e d s)) in
    let j = same_characters r q js js' i.1 in
    (h ∙ ap (λ (z : ℕ). encode_utf8 z ++ y) i.0 ∙ ap (λ (z : List ℕ). encode_utf8 c' ++ z) j.0 ∙ sym k, j.1)

pub one_string : (b x y : List ℕ) → Characters b x → Characters b y → x ≡ y
one_string b x y h k = (same_characters [] [] h k refl).0
