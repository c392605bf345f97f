-- What one byte does to a number token after its point and in its exponent.
use Rattle.std.proofs.Common.{◌≡◌, ◌↔◌, ℕ, ℤ, pos, ◌+◌, ◌-◌, ◌*◌, ◌^◌, ◌<◌, ◌≤◌, ◌-ℤ◌, ◌⊎◌, inl, inr, ⊎_elim, Bool, true, false, List, [], ◌∷◌, ◌++◌, min, refl, sym, ◌∙◌, ap, subst, arith}
use Rattle.std.proofs.lemmas.Bool.{cases_lt}
use Rattle.lot_json.specs.declared.tree.number.Number.{Number}
use Rattle.lot_json.specs.declared.tokens.number_token.NumberToken.{NumberToken}
use Rattle.lot_json.specs.declared.tokens.number_token.NumberPlace.TheVariants.{Point, Fraction, Exponent, Sign, Power}
use Rattle.lot_json.specs.NumberToken.{IsDigit, AreDigits, AreSomeDigits, IsExponent, append_digits, digits_value}
use Rattle.lot_json.specs.NumberRest.{NumberRest, RestAt, DecimalsRest, ExponentRest, HasRoom, completed_number, signed_power}
use Rattle.lot_json.specs.NumberSteps.{ContinuesFrom, CountsDecimal}
use Rattle.lot_json.proofs.CompletedNumbers.{settled_far, append_digits-le}
use Rattle.lot_json.proofs.NumberMoves.{heads, exponent_byte, can_end}

-- ---- after the point

-- A rest that begins with a decimal.
abbrev Leads : (List ℕ → Type 0) → NumberToken → ℕ → List ℕ → Number → Type 0
Leads IsRest s c t m =
    (decimals exponent : List ℕ) × (power : ℤ) × IsRest (c ∷ decimals) × IsExponent exponent power
    × (t ≡ decimals ++ exponent) × (m ≡ completed_number s [] (c ∷ decimals) power)

decimals_cases : (IsRest : List ℕ → Type 0) (s : NumberToken) (c : ℕ) (t : List ℕ) (m : Number) → DecimalsRest IsRest s (c ∷ t) m → Leads IsRest s c t m ⊎ (IsRest [] × ExponentRest s (c ∷ t) m)
decimals_cases IsRest s c t m ([], x, e, d, h, is, v) = inr (d, (e, subst (λ (z : List ℕ). IsExponent z e) (sym is) h, v))
decimals_cases IsRest s c t m (b ∷ decimals, x, e, d, h, is, v) =
    let k = heads is in
    inl (decimals, x, e, subst (λ (z : ℕ). IsRest (z ∷ decimals)) (sym k.0) d, h, k.1, subst (λ (z : ℕ). m ≡ completed_number s [] (z ∷ decimals) e) (sym k.0) v)

digit_no_exponent : (c : ℕ) (t : List ℕ) (m : Number) (s : NumberToken) → IsDigit c → ExponentRest s (c ∷ t) m → ⊥
digit_no_exponent c t m s d h = ⊎_elim (λ (k : c ≡ 101). omega (arith, d.1)) (λ (k : c ≡ 69). omega (arith, d.1)) (exponent_byte c t (c ∷ t) h.0 h.1 refl)

counted : (IsRest : List ℕ → Type 0) (s s' : NumberToken) (c : ℕ) → IsDigit c → CountsDecimal c s s'
    → ((decimals : List ℕ) → IsRest (c ∷ decimals) ↔ (IsDigit c × AreDigits decimals))
    → (t : List ℕ) (m : Number) → DecimalsRest IsRest s (c ∷ t) m ↔ RestAt Fraction s' t m
counted IsRest s s' c d counts same t m = (
  λ r. ⊎_elim
      (λ ((decimals, x, e, w, h, is, v) : Leads IsRest s c t m).
      let k = (same decimals).0 w in
      (decimals, x, e, k.1, h, is, v ∙ counts.counts decimals e k.1))
      (λ (z : IsRest [] × ExponentRest s (c ∷ t) m). absurd (digit_no_exponent c t m s d z.1))
      (decimals_cases IsRest s c t m r),
  λ (decimals, x, e, w, h, is, v).
      (c ∷ decimals, x, e, (same decimals).1 (d, w), h, ap (λ (z : List ℕ). c ∷ z) is, v ∙ sym (counts.counts decimals e w)),
)

pub point_digit : (c : ℕ) (s s' : NumberToken) → IsDigit c → CountsDecimal c s s' → ContinuesFrom (RestAt Point s) c s (record s' { place = Fraction })
unfolding NumberRest HasRoom
point_digit c s s' d h = record {
  continues = counted AreSomeDigits s s' c d h (λ _. (λ k. k, λ k. k));
  byte = inl d;
  can_end = can_end (record s' { place = Fraction });
  room = h.room;
}

pub fraction_digit : (c : ℕ) (s s' : NumberToken) → IsDigit c → CountsDecimal c s s' → ContinuesFrom (RestAt Fraction s) c s (record s' { place = Fraction })
unfolding NumberRest HasRoom
fraction_digit c s s' d h = record {
  continues = counted AreDigits s s' c d h (λ _. (λ k. k, λ k. k));
  byte = inl d;
  can_end = can_end (record s' { place = Fraction });
  room = h.room;
}

pub fraction_ends : (c : ℕ) (s : NumberToken) → (IsDigit c → ⊥) → (t : List ℕ) (m : Number) → ExponentRest s (c ∷ t) m ↔ RestAt Fraction s (c ∷ t) m
fraction_ends c s no_digit t m = (
  λ (e, h, v). ([], c ∷ t, e, tt, h, refl, v),
  λ r. ⊎_elim (λ (g : Leads AreDigits s c t m). absurd (no_digit g.3.0)) (λ (z : Unit {0} × ExponentRest s (c ∷ t) m). z.1) (decimals_cases AreDigits s c t m r),
)

-- ---- the exponent

pub exponent_begins : (c : ℕ) (s : NumberToken) → (c ≡ 101) ⊎ (c ≡ 69) → ContinuesFrom (ExponentRest s) c s (record s { place = Exponent })
unfolding NumberRest HasRoom
exponent_begins c s is = record {
  continues = λ t m. (λ (e, h, v). (e, h.1, v), λ (e, h, v). (e, (is, h), v));
  byte = inr (inr (inr (inr is)));
  can_end = can_end (record s { place = Exponent });
  room = λ n h. omega (arith, h);
}

plus_ahead : (c : ℕ) (s : NumberToken) (t : List ℕ) (m : Number) → c ≡ 43 → RestAt Exponent s (c ∷ t) m → RestAt (Sign false) s t m
plus_ahead c s t m is (e, inl (a, d, p), v) = (d, subst (λ (z : ℤ). m ≡ completed_number s [] [] z) p v)
plus_ahead c s t m is (e, inr (inl (a, d, p)), v) = absurd (omega arith)
plus_ahead c s t m is (e, inr (inr (d, p)), v) = absurd (omega (arith, d.0.0))

minus_ahead : (c : ℕ) (s : NumberToken) (t : List ℕ) (m : Number) → c ≡ 45 → RestAt Exponent s (c ∷ t) m → RestAt (Sign true) s t m
minus_ahead c s t m is (e, inl (a, d, p), v) = absurd (omega arith)
minus_ahead c s t m is (e, inr (inl (a, d, p)), v) = (d, subst (λ (z : ℤ). m ≡ completed_number s [] [] z) p v)
minus_ahead c s t m is (e, inr (inr (d, p)), v) = absurd (omega (arith, d.0.0))

digits_back : (c : ℕ) (s : NumberToken) (t : List ℕ) (m : Number) → (c ≡ 43 → ⊥) → (c ≡ 45 → ⊥) → RestAt Exponent s (c ∷ t) m → RestAt (Power false 0) s (c ∷ t) m
digits_back c s t m no_plus no_minus (e, inl (a, d, p), v) = absurd (no_plus a)
digits_back c s t m no_plus no_minus (e, inr (inl (a, d, p)), v) = absurd (no_minus a)
digits_back c s t m no_plus no_minus (e, inr (inr (d, p)), v) = (d, subst (λ (z : ℤ). m ≡ completed_number s [] [] z) p v)

pub exponent_plus : (c : ℕ) (s : NumberToken) → c ≡ 43 → ContinuesFrom (RestAt Exponent s) c s (record s { place = Sign false })
unfolding NumberRest HasRoom
exponent_plus c s is = record {
  continues = λ t m. (plus_ahead c s t m is, λ (d, v). (pos (digits_value t), inl (is, d, refl), v));
  byte = inr (inl is);
  can_end = can_end (record s { place = Sign false });
  room = λ n h. omega (arith, h);
}

pub exponent_minus : (c : ℕ) (s : NumberToken) → c ≡ 45 → ContinuesFrom (RestAt Exponent s) c s (record s { place = Sign true })
unfolding NumberRest HasRoom
exponent_minus c s is = record {
  continues = λ t m. (minus_ahead c s t m is, λ (d, v). (pos 0 -ℤ pos (digits_value t), inr (inl (is, d, refl)), v));
  byte = inr (inr (inl is));
  can_end = can_end (record s { place = Sign true });
  room = λ n h. omega (arith, h);
}

pub exponent_digits : (c : ℕ) (s : NumberToken) → (c ≡ 43 → ⊥) → (c ≡ 45 → ⊥) → (t : List ℕ) (m : Number) → RestAt (Power false 0) s (c ∷ t) m ↔ RestAt Exponent s (c ∷ t) m
exponent_digits c s no_plus no_minus t m = (
  λ (d, v). (pos (digits_value (c ∷ t)), inr (inr (d, refl)), v),
  digits_back c s t m no_plus no_minus,
)

power_same : (c n k : ℕ) (minus : Bool) (s : NumberToken) (t : List ℕ) → HasRoom (2 ^ 63) s → s.lead < 2 ^ 64 → k ≡ min (10 * n + (c - 48)) (2 ^ 64 - 1)
    → completed_number s [] [] (signed_power minus (append_digits n (c ∷ t))) ≡ completed_number s [] [] (signed_power minus (append_digits k t))
power_same c n k minus s t room small is =
    ⊎_elim (λ (h : 10 * n + (c - 48) < 2 ^ 64).
    let e : 10 * n + (c - 48) ≡ k = omega arith in
    ap (λ (z : ℕ). completed_number s [] [] (signed_power minus (append_digits z t))) e)
    (λ (h : 2 ^ 64 ≤ 10 * n + (c - 48)).
    settled_far minus (append_digits (10 * n + (c - 48)) t) (append_digits k t) s room small
    (omega (arith, append_digits-le (10 * n + (c - 48)) t)) (omega (arith, append_digits-le k t)))
    (cases_lt (10 * n + (c - 48)) (2 ^ 64))

-- One more digit of the exponent, where a power that is too large is kept as the largest.
pub power_digit : (c n k : ℕ) (minus : Bool) (s : NumberToken) → HasRoom (2 ^ 63) s → s.lead < 2 ^ 64 → IsDigit c → k ≡ min (10 * n + (c - 48)) (2 ^ 64 - 1)
    → ContinuesFrom (RestAt (Power minus n) s) c s (record s { place = Power minus k })
unfolding NumberRest HasRoom
power_digit c n k minus s room small d is = record {
  continues = λ t m.
      let same = power_same c n k minus s t room small is in
      (λ h. (h.0.1, h.1 ∙ same), λ h. ((d, h.0), h.1 ∙ sym same));
  byte = inl d;
  can_end = can_end (record s { place = Power minus k });
  room = λ n h. omega (arith, h);
}
