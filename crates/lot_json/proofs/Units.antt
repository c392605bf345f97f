-- Code units by their hexadecimal digits.
use Rattle.std.proofs.Common.{◌≡◌, ◌↔◌, ℕ, suc, ◌+◌, ◌*◌, inl, inr, List, [], ◌∷◌, ◌++◌, ap, sym, subst, ◌∙◌, refl, arith}
use Rattle.lot_json.specs.Characters.{IsHexDigit, FourDigits}
use Rattle.lot_json.specs.CodeUnit.{Digits}
use Rattle.lot_json.proofs.Utf8.{heads}

hex_same : (c v w : ℕ) → IsHexDigit c v → IsHexDigit c w → v ≡ w
hex_same c v w (inl h) (inl k) = omega (arith, h.2, k.2)
hex_same c v w (inl h) (inr (inl k)) = absurd (omega (arith, h.1, k.0))
hex_same c v w (inl h) (inr (inr k)) = absurd (omega (arith, h.1, k.0))
hex_same c v w (inr (inl h)) (inl k) = absurd (omega (arith, h.0, k.1))
hex_same c v w (inr (inl h)) (inr (inl k)) = omega (arith, h.2, k.2)
hex_same c v w (inr (inl h)) (inr (inr k)) = absurd (omega (arith, h.1, k.0))
hex_same c v w (inr (inr h)) (inl k) = absurd (omega (arith, h.0, k.1))
hex_same c v w (inr (inr h)) (inr (inl k)) = absurd (omega (arith, h.0, k.1))
hex_same c v w (inr (inr h)) (inr (inr k)) = omega (arith, h.2, k.2)

-- one digit more
pub digit : (n v c w : ℕ) (P : ℕ → List ℕ → Type 0) (t : List ℕ) → IsHexDigit c w → Digits (suc n) v (c ∷ t) P ↔ Digits n (v * 16 + w) t P
digit n v c w P t is = (
  (λ h. let k = heads h.4 in
      let same : w ≡ h.1 = hex_same c w h.1 is (subst (λ (z : ℕ). IsHexDigit z h.1) (sym k.0) h.3) in
      subst (λ (z : List ℕ). Digits n (v * 16 + w) z P) (sym k.1) (subst (λ (z : ℕ). Digits n (v * 16 + z) h.2 P) (sym same) h.5)),
  λ h. (c, w, t, is, refl, h),
)

pub no_digit : (n v c : ℕ) (P : ℕ → List ℕ → Type 0) (t : List ℕ) → ((w : ℕ) → IsHexDigit c w → ⊥) → Digits (suc n) v (c ∷ t) P → ⊥
no_digit n v c P t never h = never h.1 (subst (λ (z : ℕ). IsHexDigit z h.1) (sym (heads h.4).0) h.3)

-- four digits at once
pub digits_ahead : (P : ℕ → List ℕ → Type 0) (ds r t : List ℕ) (u : ℕ) → FourDigits ds u → t ≡ ds ++ r → P u r → Digits 4 0 t P
digits_ahead P ds r t u f e p =
    let d = f.digit in
    let w = f.worth in
    let value : u ≡ (((0 * 16 + w.0) * 16 + w.1) * 16 + w.2) * 16 + w.3 = omega (arith, f.value) in (
      d.0,
      w.0,
      d.1 ∷ d.2 ∷ d.3 ∷ r,
      f.first,
      e ∙ ap (λ (z : List ℕ). z ++ r) f.spelled,
      (d.1, w.1, d.2 ∷ d.3 ∷ r, f.second, refl, (d.2, w.2, d.3 ∷ r, f.third, refl, (d.3, w.3, r, f.fourth, refl, subst (λ (z : ℕ). P z r) value p))),
    )

pub record FourRead (P : ℕ → List ℕ → Type 0) (t : List ℕ) : Type 0 where
  pub digits : List ℕ
  pub rest : List ℕ
  pub unit : ℕ
  pub is : FourDigits digits unit
  pub split : t ≡ digits ++ rest
  pub holds : P unit rest

pub digits_back : (P : ℕ → List ℕ → Type 0) (t : List ℕ) → Digits 4 0 t P → FourRead P t
digits_back P t a =
    let b = a.5 in
    let c = b.5 in
    let d = c.5 in
    record {
      digits = a.0 ∷ b.0 ∷ c.0 ∷ d.0 ∷ [];
      rest = d.2;
      unit = (((0 * 16 + a.1) * 16 + b.1) * 16 + c.1) * 16 + d.1;
      is = record { digit = (a.0, b.0, c.0, d.0); worth = (a.1, b.1, c.1, d.1); first = a.3; second = b.3; third = c.3; fourth = d.3; spelled = refl; value = omega arith };
      split = a.4 ∙ ap (λ (z : List ℕ). a.0 ∷ z) (b.4 ∙ ap (λ (z : List ℕ). b.0 ∷ z) (c.4 ∙ ap (λ (z : List ℕ). c.0 ∷ z) d.4));
      holds = d.5;
    }
