-- Where a number token may end.
use Rattle.std.proofs.Common.{◌≡◌, ◌↔◌, ℕ, pos, ◌⊎◌, inl, inr, Bool, Option, Some, None, IfSome, IfNone, List, [], ◌∷◌, refl, sym, ◌∙◌, ap, subst}
use Rattle.lot_json.specs.declared.tree.number.Number.{Number}
use Rattle.lot_json.specs.declared.tokens.number_token.NumberToken.{NumberToken}
use Rattle.lot_json.specs.declared.tokens.number_token.NumberPlace.{NumberPlace}
use Rattle.lot_json.specs.declared.tokens.number_token.NumberPlace.TheVariants.{Start, Zero, Whole, Point, Fraction, Exponent, Sign, Power}
use Rattle.lot_json.specs.NumberToken.{IsNumberToken, AreDigits}
use Rattle.lot_json.specs.NumberRest.{NumberRest, RestAt, WholeRest, completed_number}

whole_settled : (IsRest : List ℕ → Type 0) (s : NumberToken) (m : Number) → WholeRest IsRest s [] m → m ≡ completed_number s [] [] (pos 0)
whole_settled IsRest s m ([], [], decimals, [], e, w, f, h, is, v) =
    v ∙ ap (λ (z : List ℕ). completed_number s [] z e) f ∙ ap (completed_number s [] []) h
whole_settled IsRest s m ([], [], decimals, c ∷ x, e, w, f, h, is, v) = absurd (cc)
whole_settled IsRest s m ([], c ∷ fraction, decimals, x, e, w, f, h, is, v) = absurd (cc)
whole_settled IsRest s m (c ∷ whole, fraction, decimals, x, e, w, f, h, is, v) = absurd (cc)

whole_end : (IsRest : List ℕ → Type 0) (s : NumberToken) → IsRest [] → (m : Number) → WholeRest IsRest s [] m ↔ (m ≡ completed_number s [] [] (pos 0))
whole_end IsRest s none m = (whole_settled IsRest s m, λ v. ([], [], [], [], pos 0, none, refl, refl, refl, v))

fraction_settled : (s : NumberToken) (m : Number) → RestAt Fraction s [] m → m ≡ completed_number s [] [] (pos 0)
fraction_settled s m ([], [], e, d, h, is, v) = v ∙ ap (completed_number s [] []) h
fraction_settled s m ([], c ∷ x, e, d, h, is, v) = absurd (cc)
fraction_settled s m (c ∷ decimals, x, e, d, h, is, v) = absurd (cc)

-- At these places, and with no exponent.
pub ends_at : (p : NumberPlace) (s : NumberToken) → (p ≡ Zero) ⊎ ((p ≡ Whole) ⊎ (p ≡ Fraction)) → (m : Number) → RestAt p s [] m ↔ (m ≡ completed_number s [] [] (pos 0))
ends_at p s (inl e) m = subst (λ (q : NumberPlace). RestAt q s [] m ↔ (m ≡ completed_number s [] [] (pos 0))) (sym e) (whole_end (λ whole. whole ≡ []) s refl m)
ends_at p s (inr (inl e)) m = subst (λ (q : NumberPlace). RestAt q s [] m ↔ (m ≡ completed_number s [] [] (pos 0))) (sym e) (whole_end AreDigits s tt m)
ends_at p s (inr (inr e)) m = subst (λ (q : NumberPlace). RestAt q s [] m ↔ (m ≡ completed_number s [] [] (pos 0))) (sym e) (fraction_settled s m, λ v. ([], [], pos 0, tt, refl, refl, v))

no_whole : (s : NumberToken) (m : Number) → RestAt Start s [] m → ⊥
no_whole s m ([], fraction, decimals, x, e, w, f, h, is, v) = w
no_whole s m (c ∷ whole, fraction, decimals, x, e, w, f, h, is, v) = absurd (cc)

no_decimals : (s : NumberToken) (m : Number) → RestAt Point s [] m → ⊥
no_decimals s m ([], x, e, d, h, is, v) = d
no_decimals s m (c ∷ decimals, x, e, d, h, is, v) = absurd (cc)

-- At the other places more of the token has to follow.
pub must_continue : (p : NumberPlace) (s : NumberToken) → (p ≡ Zero → ⊥) → (p ≡ Whole → ⊥) → (p ≡ Fraction → ⊥) → ((minus : Bool) (n : ℕ) → p ≡ Power minus n → ⊥)
    → (m : Number) → RestAt p s [] m → ⊥
must_continue Start s a b c d m r = no_whole s m r
must_continue Zero s a b c d m r = a refl
must_continue Whole s a b c d m r = b refl
must_continue Point s a b c d m r = no_decimals s m r
must_continue Fraction s a b c d m r = c refl
must_continue Exponent s a b c d m r = r.1
must_continue (Sign minus) s a b c d m r = r.0
must_continue (Power minus n) s a b c d m r = d minus n refl

-- ---- a whole text

pub only_number : (b : List ℕ) (s : NumberToken) (r : Option Number) → ((m : Number) → IsNumberToken b m ↔ NumberRest s [] m)
    → IfSome r (λ n. (m : Number) → NumberRest s [] m ↔ (m ≡ n)) → IfSome r (λ n. (m : Number) → IsNumberToken b m → m ≡ n)
only_number b s (Some n) same h = λ m k. (h m).0 ((same m).0 k)
only_number b s None same h = h

pub no_number : (b : List ℕ) (s : NumberToken) (r : Option Number) → ((m : Number) → IsNumberToken b m ↔ NumberRest s [] m)
    → IfNone r ((m : Number) → NumberRest s [] m → ⊥) → IfNone r ((m : Number) → IsNumberToken b m → ⊥)
no_number b s (Some n) same h = h
no_number b s None same h = λ m k. h m ((same m).0 k)
