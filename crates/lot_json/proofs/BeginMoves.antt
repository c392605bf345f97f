-- How a number token's text and its rest go together at its first byte.
use Rattle.std.proofs.Common.{◌≡◌, ◌↔◌, ℕ, ℤ, pos, ◌+◌, ◌+ℤ◌, Bool, true, false, List, [], ◌∷◌, ◌++◌, length, refl, sym, ◌∙◌, ap, subst, arith, if◌then◌else◌}
use Rattle.std.proofs.lemmas.Int.{ints}
use Rattle.lot_json.specs.declared.tree.number.Number.{Number}
use Rattle.lot_json.specs.declared.tokens.number_token.NumberToken.{NumberToken}
use Rattle.lot_json.specs.declared.tokens.number_token.NumberPlace.TheVariants.{Start}
use Rattle.lot_json.specs.NumberToken.{IsNumberToken, IsWholePart, IsFraction, IsExponent, IsSign, digits_value, micro}
use Rattle.lot_json.specs.NumberRest.{NumberRest, RestAt, unread_number, completed_number}
use Rattle.lot_json.specs.NumberSteps.{Takes}
use Rattle.std.specs.Bool.{OnTrue, OnFalse}
use Rattle.lot_json.proofs.NumberMoves.{heads}
use Rattle.lot_json.proofs.WholeMoves.{first_whole}

same_number : (minus : Bool) (whole decimals : List ℕ) (power : ℤ) → micro minus (digits_value (whole ++ decimals)) (length decimals) power ≡ completed_number (unread_number minus) whole decimals power
same_number minus whole decimals power =
    let a : length decimals ≡ 0 + length decimals = omega arith in
    let b : power ≡ power +ℤ pos 0 = omega (arith, ints) in
    ap (λ (z : ℕ). micro minus (digits_value (whole ++ decimals)) z power) a
    ∙ ap (λ (z : ℤ). micro minus (digits_value (whole ++ decimals)) (0 + length decimals) z) b

ahead_minus : (minus : Bool) (sign whole fraction decimals x : List ℕ) (e : ℤ) (c : ℕ) (t : List ℕ) (m : Number) → c ≡ 45
    → IsSign sign minus → IsWholePart whole → IsFraction fraction decimals → IsExponent x e → c ∷ t ≡ sign ++ whole ++ fraction ++ x
    → m ≡ micro minus (digits_value (whole ++ decimals)) (length decimals) e → RestAt Start (unread_number true) t m
ahead_minus true sign whole fraction decimals x e c t m first s w f h is v =
    (whole, fraction, decimals, x, e, w, f, h, (heads (is ∙ ap (λ (z : List ℕ). z ++ whole ++ fraction ++ x) s)).1, v ∙ same_number true whole decimals e)
ahead_minus false sign [] fraction decimals x e c t m first s w f h is v = absurd w
ahead_minus false sign (b ∷ whole) fraction decimals x e c t m first s w f h is v =
    let k = heads (is ∙ ap (λ (z : List ℕ). z ++ (b ∷ whole) ++ fraction ++ x) s) in
    absurd (omega (arith, k.0, (first_whole b whole w).0))

ahead_other : (minus : Bool) (sign whole fraction decimals x : List ℕ) (e : ℤ) (c : ℕ) (t : List ℕ) (m : Number) → (c ≡ 45 → ⊥)
    → IsSign sign minus → IsWholePart whole → IsFraction fraction decimals → IsExponent x e → c ∷ t ≡ sign ++ whole ++ fraction ++ x
    → m ≡ micro minus (digits_value (whole ++ decimals)) (length decimals) e → RestAt Start (unread_number false) (c ∷ t) m
ahead_other true sign whole fraction decimals x e c t m other s w f h is v =
    absurd (other (heads (is ∙ ap (λ (z : List ℕ). z ++ whole ++ fraction ++ x) s)).0)
ahead_other false sign whole fraction decimals x e c t m other s w f h is v =
    (whole, fraction, decimals, x, e, w, f, h, is ∙ ap (λ (z : List ℕ). z ++ whole ++ fraction ++ x) s, v ∙ same_number false whole decimals e)

signed_back : (minus : Bool) (t : List ℕ) (m : Number) → RestAt Start (unread_number minus) t m → IsNumberToken (if minus then 45 ∷ t else t) m
signed_back true t m (whole, fraction, decimals, x, e, w, f, h, is, v) = record {
  minus = true;
  sign = 45 ∷ [];
  whole = whole;
  fraction = fraction;
  decimals = decimals;
  exponent = x;
  power = e;
  is_sign = refl;
  is_whole = w;
  is_fraction = f;
  is_exponent = h;
  spelled = ap (λ (z : List ℕ). 45 ∷ z) is;
  value = v ∙ sym (same_number true whole decimals e);
}
signed_back false t m (whole, fraction, decimals, x, e, w, f, h, is, v) = record {
  minus = false;
  sign = [];
  whole = whole;
  fraction = fraction;
  decimals = decimals;
  exponent = x;
  power = e;
  is_sign = refl;
  is_whole = w;
  is_fraction = f;
  is_exponent = h;
  spelled = is;
  value = v ∙ sym (same_number false whole decimals e);
}

-- A minus begins a token, and its number follows.
pub begin_minus : (c : ℕ) (minus : Bool) → c ≡ 45 → minus ≡ true → (t : List ℕ) (m : Number) → IsNumberToken (c ∷ t) m ↔ NumberRest (unread_number minus) t m
unfolding NumberRest
begin_minus c minus is true_minus t m = (
  λ k. subst (λ (b : Bool). RestAt Start (unread_number b) t m) (sym true_minus)
      (ahead_minus k.minus k.sign k.whole k.fraction k.decimals k.exponent k.power c t m is k.is_sign k.is_whole k.is_fraction k.is_exponent k.spelled k.value),
  λ r. subst (λ (z : ℕ). IsNumberToken (z ∷ t) m) (sym is) (signed_back true t m (subst (λ (b : Bool). RestAt Start (unread_number b) t m) true_minus r)),
)

-- Another byte begins what follows a sign that is not there.
pub begin_other : (c : ℕ) (minus : Bool) → (c ≡ 45 → ⊥) → minus ≡ false → (t : List ℕ) (m : Number) → IsNumberToken (c ∷ t) m ↔ RestAt Start (unread_number minus) (c ∷ t) m
begin_other c minus other no_minus t m = (
  λ k. subst (λ (b : Bool). RestAt Start (unread_number b) (c ∷ t) m) (sym no_minus)
      (ahead_other k.minus k.sign k.whole k.fraction k.decimals k.exponent k.power c t m other k.is_sign k.is_whole k.is_fraction k.is_exponent k.spelled k.value),
  λ r. signed_back false (c ∷ t) m (subst (λ (b : Bool). RestAt Start (unread_number b) (c ∷ t) m) no_minus r),
)

-- After no minus the first digit was taken, or not.
pub first_digit : (continues : Bool) (c : ℕ) (minus : Bool) (s : NumberToken) → (c ≡ 45 → ⊥) → minus ≡ false → Takes continues (RestAt Start (unread_number minus)) c (unread_number minus) s
    → OnTrue continues ((t : List ℕ) (m : Number) → IsNumberToken (c ∷ t) m ↔ NumberRest s t m)
first_digit true c minus s other no_minus h = λ t m.
    let k = begin_other c minus other no_minus t m in
    (λ r. (h.continues t m).0 (k.0 r), λ r. k.1 ((h.continues t m).1 r))
first_digit false c minus s other no_minus h = tt

pub no_digit : (continues : Bool) (c : ℕ) (minus : Bool) (s : NumberToken) → (c ≡ 45 → ⊥) → minus ≡ false → Takes continues (RestAt Start (unread_number minus)) c (unread_number minus) s
    → OnFalse continues ((t : List ℕ) (m : Number) → IsNumberToken (c ∷ t) m → ⊥)
no_digit true c minus s other no_minus h = tt
no_digit false c minus s other no_minus h = λ t m r. h.rejects t m ((begin_other c minus other no_minus t m).0 r)
