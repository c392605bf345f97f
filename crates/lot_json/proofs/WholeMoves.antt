-- What one byte does to a number token in its whole part.
use Rattle.std.proofs.Common.{◌≡◌, ◌↔◌, ℕ, ℤ, ◌≤◌, ◌⊎◌, inl, inr, ⊎_elim, List, [], ◌∷◌, ◌++◌, refl, sym, ◌∙◌, ap, subst, arith}
use Rattle.lot_json.specs.declared.tree.number.Number.{Number}
use Rattle.lot_json.specs.declared.tokens.number_token.NumberToken.{NumberToken}
use Rattle.lot_json.specs.declared.tokens.number_token.NumberPlace.TheVariants.{Start, Zero, Whole, Point}
use Rattle.lot_json.specs.NumberToken.{IsDigit, AreDigits, IsWholePart, IsFraction, IsExponent}
use Rattle.lot_json.specs.NumberRest.{NumberRest, RestAt, WholeRest, ExponentRest, HasRoom, completed_number}
use Rattle.lot_json.specs.NumberSteps.{ContinuesFrom, CountsWhole}
use Rattle.lot_json.proofs.NumberMoves.{heads, exponent_byte, can_end}

fraction_digits : (f d : List ℕ) → IsFraction f d → AreDigits d
fraction_digits [] d h = subst AreDigits (sym h) tt
fraction_digits (c ∷ []) d h = absurd h.1
fraction_digits (c ∷ b ∷ cs) d h = subst AreDigits (sym h.2) h.1

-- After the whole part: a point and decimals, or an exponent.
zero_cases : (s : NumberToken) (c : ℕ) (t : List ℕ) (m : Number) → RestAt Zero s (c ∷ t) m → ((c ≡ 46) × RestAt Point s t m) ⊎ ExponentRest s (c ∷ t) m
zero_cases s c t m ([], [], decimals, x, e, w, f, h, is, v) =
    inr (e, subst (λ (z : List ℕ). IsExponent z e) (sym is) h, subst (λ (z : List ℕ). m ≡ completed_number s [] z e) f v)
zero_cases s c t m ([], d ∷ cs, decimals, x, e, w, f, h, is, v) =
    let k = heads is in
    inl (k.0 ∙ f.0, (cs, x, e, f.1, h, k.1, subst (λ (z : List ℕ). m ≡ completed_number s [] z e) f.2 v))
zero_cases s c t m (b ∷ whole, fraction, decimals, x, e, w, f, h, is, v) = absurd (cc)

point_back : (s : NumberToken) (t : List ℕ) (m : Number) → RestAt Point s t m → RestAt Zero s (46 ∷ t) m
point_back s t m (decimals, x, e, d, h, is, v) = ([], 46 ∷ decimals, decimals, x, e, refl, (refl, d, refl), h, ap (λ (z : List ℕ). 46 ∷ z) is, v)

exponent_back : (s : NumberToken) (t : List ℕ) (m : Number) → ExponentRest s t m → RestAt Zero s t m
exponent_back s t m (e, h, v) = ([], [], [], t, e, refl, refl, h, refl, v)

-- A rest that begins with a byte of the whole part, or one that does not.
abbrev Leads : (List ℕ → Type 0) → NumberToken → ℕ → List ℕ → Number → Type 0
Leads IsRest s c t m =
    (whole fraction decimals exponent : List ℕ) × (power : ℤ) × IsRest (c ∷ whole) × IsFraction fraction decimals
    × IsExponent exponent power × (t ≡ whole ++ fraction ++ exponent) × (m ≡ completed_number s (c ∷ whole) decimals power)

whole_cases : (IsRest : List ℕ → Type 0) (s : NumberToken) (c : ℕ) (t : List ℕ) (m : Number) → WholeRest IsRest s (c ∷ t) m → Leads IsRest s c t m ⊎ (IsRest [] × RestAt Zero s (c ∷ t) m)
whole_cases IsRest s c t m ([], fraction, decimals, x, e, w, f, h, is, v) = inr (w, ([], fraction, decimals, x, e, refl, f, h, is, v))
whole_cases IsRest s c t m (b ∷ whole, fraction, decimals, x, e, w, f, h, is, v) =
    let k = heads is in
    inl (whole, fraction, decimals, x, e, subst (λ (z : ℕ). IsRest (z ∷ whole)) (sym k.0) w, f, h, k.1, subst (λ (z : ℕ). m ≡ completed_number s (z ∷ whole) decimals e) (sym k.0) v)

leads_back : (IsRest : List ℕ → Type 0) (s : NumberToken) (c : ℕ) (t : List ℕ) (m : Number) → Leads IsRest s c t m → WholeRest IsRest s (c ∷ t) m
leads_back IsRest s c t m (whole, fraction, decimals, x, e, w, f, h, is, v) =
    (c ∷ whole, fraction, decimals, x, e, w, f, h, ap (λ (z : List ℕ). c ∷ z) is, v)

digit_not_zero : (s : NumberToken) (c : ℕ) (t : List ℕ) (m : Number) → IsDigit c → RestAt Zero s (c ∷ t) m → ⊥
digit_not_zero s c t m d r =
    ⊎_elim (λ (h : (c ≡ 46) × RestAt Point s t m). absurd (omega (arith, d.0, h.0)))
    (λ (h : ExponentRest s (c ∷ t) m). ⊎_elim (λ (e : c ≡ 101). absurd (omega (arith, d.1))) (λ (e : c ≡ 69). absurd (omega (arith, d.1))) (exponent_byte c t (c ∷ t) h.0 h.1 refl))
    (zero_cases s c t m r)

-- A digit of the whole part is counted, where what may follow it is the same as IsRest says and as IsNext says.
counted : (IsRest IsNext : List ℕ → Type 0) (s s' : NumberToken) (c : ℕ) → IsDigit c → CountsWhole c s s'
    → ((whole : List ℕ) → IsNext whole → AreDigits whole) → ((whole : List ℕ) → IsRest (c ∷ whole) ↔ IsNext whole)
    → (t : List ℕ) (m : Number) → WholeRest IsRest s (c ∷ t) m ↔ WholeRest IsNext s' t m
counted IsRest IsNext s s' c d counts digits same t m = (
  λ r. ⊎_elim
      (λ ((whole, fraction, decimals, x, e, w, f, h, is, v) : Leads IsRest s c t m).
      let k = (same whole).0 w in
      (whole, fraction, decimals, x, e, k, f, h, is, v ∙ counts.counts whole decimals e (digits whole k) (fraction_digits fraction decimals f)))
      (λ (z : IsRest [] × RestAt Zero s (c ∷ t) m). absurd (digit_not_zero s c t m d z.1))
      (whole_cases IsRest s c t m r),
  λ (whole, fraction, decimals, x, e, w, f, h, is, v).
      leads_back IsRest s c t m (
        whole,
        fraction,
        decimals,
        x,
        e,
        (same whole).1 w,
        f,
        h,
        is,
        v ∙ sym (counts.counts whole decimals e (digits whole w) (fraction_digits fraction decimals f)),
      ),
)

whole_zero : (c : ℕ) → c ≡ 48 → (whole : List ℕ) → IsWholePart (c ∷ whole) ↔ (whole ≡ [])
whole_zero c e [] = (λ _. refl, λ _. (omega arith, omega arith))
whole_zero c e (b ∷ whole) = (λ h. absurd (omega (arith, h.0)), λ h. absurd (cc))

whole_other : (c : ℕ) → 49 ≤ c → c ≤ 57 → (whole : List ℕ) → IsWholePart (c ∷ whole) ↔ AreDigits whole
whole_other c low high [] = (λ _. tt, λ _. (omega arith, omega arith))
whole_other c low high (b ∷ whole) = (λ h. h.2, λ h. (low, high, h))

no_digits : (whole : List ℕ) → whole ≡ [] → AreDigits whole
no_digits whole e = subst AreDigits (sym e) tt

-- ---- the moves

pub start_zero : (c : ℕ) (s s' : NumberToken) → c ≡ 48 → CountsWhole c s s' → ContinuesFrom (RestAt Start s) c s (record s' { place = Zero })
unfolding NumberRest HasRoom
start_zero c s s' e h = record {
  continues = counted IsWholePart (λ whole. whole ≡ []) s s' c (omega arith, omega arith) h no_digits (whole_zero c e);
  byte = inl (omega arith, omega arith);
  can_end = can_end (record s' { place = Zero });
  room = h.room;
}

pub start_other : (c : ℕ) (s s' : NumberToken) → 49 ≤ c → c ≤ 57 → CountsWhole c s s' → ContinuesFrom (RestAt Start s) c s (record s' { place = Whole })
unfolding NumberRest HasRoom
start_other c s s' low high h = record {
  continues = counted IsWholePart AreDigits s s' c (omega arith, omega arith) h (λ _ d. d) (whole_other c low high);
  byte = inl (omega arith, omega arith);
  can_end = can_end (record s' { place = Whole });
  room = h.room;
}

pub whole_digit : (c : ℕ) (s s' : NumberToken) → IsDigit c → CountsWhole c s s' → ContinuesFrom (RestAt Whole s) c s (record s' { place = Whole })
unfolding NumberRest HasRoom
whole_digit c s s' d h = record {
  continues = counted AreDigits AreDigits s s' c d h (λ _ k. k) (λ whole. (λ k. k.1, λ k. (d, k)));
  byte = inl d;
  can_end = can_end (record s' { place = Whole });
  room = h.room;
}

-- Nothing but a digit begins a token after its sign.
pub first_whole : (c : ℕ) (whole : List ℕ) → IsWholePart (c ∷ whole) → IsDigit c
first_whole c [] h = h
first_whole c (b ∷ whole) h = (omega (arith, h.0), h.1)

pub whole_ends : (c : ℕ) (s : NumberToken) → (IsDigit c → ⊥) → (t : List ℕ) (m : Number) → RestAt Zero s (c ∷ t) m ↔ RestAt Whole s (c ∷ t) m
whole_ends c s no_digit t m = (
  λ (whole, fraction, decimals, x, e, w, f, h, is, v). (whole, fraction, decimals, x, e, no_digits whole w, f, h, is, v),
  λ r. ⊎_elim (λ (g : Leads AreDigits s c t m). absurd (no_digit g.5.0)) (λ (z : Unit {0} × RestAt Zero s (c ∷ t) m). z.1) (whole_cases AreDigits s c t m r),
)

no_point : (c : ℕ) (t : List ℕ) (m : Number) (s : NumberToken) → c ≡ 46 → ExponentRest s (c ∷ t) m → ⊥
no_point c t m s e h = ⊎_elim (λ (k : c ≡ 101). omega arith) (λ (k : c ≡ 69). omega arith) (exponent_byte c t (c ∷ t) h.0 h.1 refl)

pub zero_point : (c : ℕ) (s : NumberToken) → c ≡ 46 → ContinuesFrom (RestAt Zero s) c s (record s { place = Point })
unfolding NumberRest HasRoom
zero_point c s e = record {
  continues = λ t m. (
    λ r. ⊎_elim (λ (h : (c ≡ 46) × RestAt Point s t m). h.1) (λ (h : ExponentRest s (c ∷ t) m). absurd (no_point c t m s e h)) (zero_cases s c t m r),
    λ r. subst (λ (z : ℕ). RestAt Zero s (z ∷ t) m) (sym e) (point_back s t m r),
  );
  byte = inr (inr (inr (inl e)));
  can_end = can_end (record s { place = Point });
  room = λ n h. omega (arith, h);
}

pub zero_ends : (c : ℕ) (s : NumberToken) → (c ≡ 46 → ⊥) → (t : List ℕ) (m : Number) → ExponentRest s (c ∷ t) m ↔ RestAt Zero s (c ∷ t) m
zero_ends c s no_point t m = (
  exponent_back s (c ∷ t) m,
  λ r. ⊎_elim (λ (h : (c ≡ 46) × RestAt Point s t m). absurd (no_point h.0)) (λ (h : ExponentRest s (c ∷ t) m). h) (zero_cases s c t m r),
)
