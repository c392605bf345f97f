-- What characters begin with.
use Rattle.std.proofs.Common.{◌≡◌, ◌↔◌, ℕ, ◌<◌, ◌≤◌, ◌≢◌, ◌⊎◌, inl, inr, List, [], ◌∷◌, ◌++◌, ap, sym, ◌∙◌, refl, arith, append_assoc}
use Rattle.std.specs.Char.{encode_utf8}
use Rattle.lot_json.specs.Characters.{Characters, close, more, unescaped, short, unit, pair, IsUnescaped, IsShortEscape, FourDigits, pair_code}
use Rattle.lot_json.specs.Characters.{FollowedBy}
use Rattle.lot_json.specs.CodeUnit.{AfterUnit}
use Rattle.lot_json.proofs.Utf8.{heads, shape, first_byte}

-- an unescaped character, and more characters
pub record Plain (b x : List ℕ) : Type 0 where
  pub code : ℕ
  pub rest : List ℕ
  pub is : IsUnescaped code
  pub spelled : b ≡ encode_utf8 code ++ rest
  pub follows : FollowedBy code rest x

-- an escape after its backslash, and more characters
pub data Escape (b x : List ℕ) : Type 0 where
  letter : (e c : ℕ) (r : List ℕ) → IsShortEscape e c → b ≡ e ∷ r → FollowedBy c r x → Escape b x
  digits : (ds r : List ℕ) (u : ℕ) → FourDigits ds u → b ≡ 117 ∷ (ds ++ r) → AfterUnit u r x → Escape b x

-- the same with the backslash
data Begins (b x : List ℕ) : Type 0 where
  ends : b ≡ 34 ∷ [] → x ≡ [] → Begins b x
  unescaped_spelling : Plain b x → Begins b x
  escaped : (r : List ℕ) → b ≡ 92 ∷ r → Escape r x → Begins b x

begins : (b x : List ℕ) → Characters b x → Begins b x
begins b x (close e s) = ends e s
begins b x (more sp r y c (unescaped is e) h split text) = unescaped_spelling (record { code = c; rest = r; is = is; spelled = split ∙ ap (λ (z : List ℕ). z ++ r) e; follows = (y, h, text) })
begins b x (more sp r y c (short l is e) h split text) = escaped (l ∷ r) (split ∙ ap (λ (z : List ℕ). z ++ r) e) (letter l c r is refl (y, h, text))
begins b x (more sp r y c (unit is s) h split text) = escaped (117 ∷ (is.0 ++ r)) (split ∙ ap (λ (z : List ℕ). z ++ r) is.2) (digits is.0 r c is.1 refl (inl (s, (y, h, text))))
begins b x (more sp r y c (pair first second high low f g s l e value) h split text) =
    escaped (117 ∷ (f.0 ++ (second ++ r)))
    (split ∙ ap (λ (z : List ℕ). z ++ r) (e ∙ ap (λ (z : List ℕ). z ++ second) f.2) ∙ simp append_assoc)
    (digits f.0 (second ++ r) high f.1 refl (inr (g, (low, second, r, s, l, refl, (y, h, text ∙ ap (λ (z : ℕ). encode_utf8 z ++ y) value)))))

pub quote : (t x : List ℕ) → Characters (34 ∷ t) x ↔ ((t ≡ []) × (x ≡ []))
quote t x = (λ h. ahead (begins (34 ∷ t) x h), λ h. close (ap (λ (z : List ℕ). 34 ∷ z) h.0) h.1)
  where
    whole : (p : Plain (34 ∷ t) x) → ((p.code < 128) × (34 ≡ p.code) × (t ≡ p.rest)) ⊎ ((128 ≤ p.code) × (194 ≤ 34) × (34 ≤ 244)) → ⊥
    whole p (inl h) = p.is.2 (sym h.1)
    whole p (inr h) = omega (arith, h.1)

    ahead : Begins (34 ∷ t) x → (t ≡ []) × (x ≡ [])
    ahead (ends e s) = ((heads e).1, s)
    ahead (unescaped_spelling p) = absurd (whole p (first_byte 34 p.code t p.rest (shape p.code p.is.0) p.spelled))
    ahead (escaped r e _) = absurd (omega (arith, (heads e).0))

pub unescaped_ahead : (c : ℕ) (t x : List ℕ) → c ≢ 34 → c ≢ 92 → Characters (c ∷ t) x → Plain (c ∷ t) x
unescaped_ahead c t x q s h = by (begins (c ∷ t) x h)
  where
    by : Begins (c ∷ t) x → Plain (c ∷ t) x
    by (ends e _) = absurd (q (heads e).0)
    by (unescaped_spelling p) = p
    by (escaped r e _) = absurd (s (heads e).0)

pub unescaped_back : (b x : List ℕ) → Plain b x → Characters b x
unescaped_back b x p = more (encode_utf8 p.code) p.rest p.follows.0 p.code (unescaped p.is refl) p.follows.1 p.spelled p.follows.2

pub escape_ahead : (t x : List ℕ) → Characters (92 ∷ t) x → Escape t x
escape_ahead t x h = by (begins (92 ∷ t) x h)
  where
    whole : (p : Plain (92 ∷ t) x) → ((p.code < 128) × (92 ≡ p.code) × (t ≡ p.rest)) ⊎ ((128 ≤ p.code) × (194 ≤ 92) × (92 ≤ 244)) → ⊥
    whole p (inl h) = p.is.3 (sym h.1)
    whole p (inr h) = omega (arith, h.1)

    by : Begins (92 ∷ t) x → Escape t x
    by (ends e _) = absurd (omega (arith, (heads e).0))
    by (unescaped_spelling p) = absurd (whole p (first_byte 92 p.code t p.rest (shape p.code p.is.0) p.spelled))
    by (escaped r e h) = at r (heads e).1 h
      where
        at : (r : List ℕ) → t ≡ r → Escape r x → Escape t x
        at r e (letter l c s is f h) = letter l c s is (e ∙ f) h
        at r e (digits ds s u is f h) = digits ds s u is (e ∙ f) h

pub escape_back : (t x : List ℕ) → Escape t x → Characters (92 ∷ t) x
escape_back t x (letter l c r is e h) = more (92 ∷ l ∷ []) r h.0 c (short l is refl) h.1 (ap (λ (z : List ℕ). 92 ∷ z) e) h.2
escape_back t x (digits ds r u is e (inl h)) =
    more (92 ∷ 117 ∷ ds) r h.1.0 u (unit (ds, is, refl) h.0) h.1.1 (ap (λ (z : List ℕ). 92 ∷ z) e) h.1.2
escape_back t x (digits ds r u is e (inr h)) =
    let a = h.1 in
    more ((92 ∷ 117 ∷ ds) ++ a.1) a.2 a.6.0 (pair_code u a.0) (pair (92 ∷ 117 ∷ ds) a.1 u a.0 (ds, is, refl) h.0 a.3 a.4 refl refl) a.6.1
    (ap (λ (z : List ℕ). 92 ∷ z) (e ∙ ap (λ (z : List ℕ). 117 ∷ (ds ++ z)) a.5) ∙ sym (append_assoc (92 ∷ 117 ∷ ds) a.1 a.2)) a.6.2
