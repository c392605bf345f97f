-- After a backslash.
use Rattle.std.proofs.Common.{◌≡◌, ◌↔◌, ℕ, ◌≢◌, List, ◌∷◌, ◌++◌, ap, sym, subst, ◌∙◌, refl, arith}
use Rattle.lot_json.specs.Characters.{Characters, IsShortEscape}
use Rattle.lot_json.specs.Characters.{FollowedBy}
use Rattle.lot_json.specs.CodeUnit.{Digits, AfterHigh, AfterLow, AfterUnit}
use Rattle.lot_json.proofs.Utf8.{heads}
use Rattle.lot_json.proofs.Spellings.{Escape, letter, digits, escape_ahead, escape_back}
use Rattle.lot_json.proofs.CharacterBegins.{then_at}
use Rattle.lot_json.proofs.Units.{digits_ahead, digits_back, FourRead}

same_letter : (e c d : ℕ) → IsShortEscape e c → IsShortEscape e d → c ≡ d
same_letter e c d h k = omega (arith, h, k)

no_letter_u : (c : ℕ) → IsShortEscape 117 c → ⊥
no_letter_u c h = omega (arith, h)

pub short_escape : (e c : ℕ) → IsShortEscape e c → (t x : List ℕ) → Characters (92 ∷ e ∷ t) x ↔ FollowedBy c t x
short_escape e c is t x = (λ h. by (escape_ahead (e ∷ t) x h), λ h. escape_back (e ∷ t) x (letter e c t is refl h))
  where
    by : Escape (e ∷ t) x → FollowedBy c t x
    by (letter l d r k f h) = let p = heads f in then_at c d r t x (same_letter e c d is (subst (λ (z : ℕ). IsShortEscape z d) (sym p.0) k)) p.1 h
    by (digits ds r u k f h) = absurd (no_letter_u c (subst (λ (z : ℕ). IsShortEscape z c) (heads f).0 is))

pub no_escape : (e : ℕ) (t x : List ℕ) → e ≢ 117 → ((c : ℕ) → IsShortEscape e c → ⊥) → Characters (92 ∷ e ∷ t) x → ⊥
no_escape e t x n never h = by (escape_ahead (e ∷ t) x h)
  where
    by : Escape (e ∷ t) x → ⊥
    by (letter l d r k f h) = never d (subst (λ (z : ℕ). IsShortEscape z d) (sym (heads f).0) k)
    by (digits ds r u k f h) = n (heads f).0

pub unit_escape : (t x : List ℕ) → Characters (92 ∷ 117 ∷ t) x ↔ Digits 4 0 t (λ (u : ℕ) (r : List ℕ). AfterUnit u r x)
unit_escape t x = (λ h. by (escape_ahead (117 ∷ t) x h), λ h. back (digits_back (λ (u : ℕ) (r : List ℕ). AfterUnit u r x) t h))
  where
    by : Escape (117 ∷ t) x → Digits 4 0 t (λ (u : ℕ) (r : List ℕ). AfterUnit u r x)
    by (letter l d r k f h) = absurd (no_letter_u d (subst (λ (z : ℕ). IsShortEscape z d) (sym (heads f).0) k))
    by (digits ds r u k f h) = digits_ahead (λ (u : ℕ) (r : List ℕ). AfterUnit u r x) ds r t u k (heads f).1 h

    back : FourRead (λ (u : ℕ) (r : List ℕ). AfterUnit u r x) t → Characters (92 ∷ 117 ∷ t) x
    back f = escape_back (117 ∷ t) x (digits f.digits f.rest f.unit f.is (ap (λ (z : List ℕ). 117 ∷ z) f.split) f.holds)

-- the escape of a low surrogate
pub low_escape : (high : ℕ) (t x : List ℕ) → AfterHigh high (92 ∷ 117 ∷ t) x ↔ Digits 4 0 t (λ (u : ℕ) (r : List ℕ). AfterLow high u r x)
low_escape high t x = (ahead, λ h. back (digits_back (λ (u : ℕ) (r : List ℕ). AfterLow high u r x) t h))
  where
    ahead : AfterHigh high (92 ∷ 117 ∷ t) x → Digits 4 0 t (λ (u : ℕ) (r : List ℕ). AfterLow high u r x)
    ahead h = digits_ahead (λ (u : ℕ) (r : List ℕ). AfterLow high u r x) h.3.0 h.2 t h.0 h.3.1 (heads (heads (h.5 ∙ ap (λ (z : List ℕ). z ++ h.2) h.3.2)).1).1 (h.4, h.6)

    back : FourRead (λ (u : ℕ) (r : List ℕ). AfterLow high u r x) t → AfterHigh high (92 ∷ 117 ∷ t) x
    back f = (f.unit, 92 ∷ 117 ∷ f.digits, f.rest, (f.digits, f.is, refl), f.holds.0, ap (λ (z : List ℕ). 92 ∷ 117 ∷ z) f.split, f.holds.1)
