-- What a byte does, as the functions of character.rt have it.
use Rattle.std.proofs.Common.{◌≡◌, ◌↔◌, ℕ, Option, Some, None, suc, ◌+◌, ◌-◌, ◌*◌, ◌/◌, ◌<◌, ◌≤◌, ◌≢◌, inl, inr, ⊎_elim, List, ◌∷◌, ap, sym, subst, ◌∙◌, refl, arith}
use Rattle.std.specs.Char.{IsScalar}
use Rattle.std.specs.Str.Lossy.{second_byte_min, second_byte_max}
use Rattle.std.proofs.Math.Utf8.{scalar_cases}
use Rattle.std.proofs.lemmas.Bool.{cases_lt, cases_order, ne_eqb}
use Rattle.lot_json.specs.declared.tokens.code_unit.DigitPlace.{DigitPlace}
use Rattle.lot_json.specs.declared.tokens.code_unit.DigitPlace.TheVariants.{First, Second, Third, Fourth}
use Rattle.lot_json.specs.declared.tokens.byte_sequence.BytesLeft.{BytesLeft}
use Rattle.lot_json.specs.declared.tokens.byte_sequence.BytesLeft.TheVariants.{One, Two, Three}
use Rattle.lot_json.specs.declared.tokens.character.Taken.{Taken}
use Rattle.lot_json.specs.declared.tokens.character.Taken.TheVariants.{Part, Whole, Quote}
use Rattle.lot_json.specs.Characters.{Characters, IsHexDigit}
use Rattle.lot_json.specs.Characters.{FollowedBy}
use Rattle.lot_json.specs.CodeUnit.{Digits, AfterHigh, AfterUnit, digits_left, digits_after, values_before}
use Rattle.lot_json.specs.ByteSequence.{AreScalar, Continues, with_bits, bytes_after, values_after}
use Rattle.lot_json.specs.Character.{LeadsTo}
use Rattle.lot_json.proofs.Utf8.{heads}
use Rattle.lot_json.proofs.CharacterBegins.{two_ahead, two_back, three_ahead, three_back, four_ahead, four_back, long}
use Rattle.lot_json.proofs.CharacterBegins as begins
use Rattle.lot_json.proofs.Units.{digit, no_digit}
use Rattle.lot_json.proofs.CharacterEnds.{ends_one, ends_two, ends_three}

pub same_leads : (R S : List ℕ → List ℕ → Type 0) (m : Option Taken) → ((t x : List ℕ) → R t x ↔ S t x) → LeadsTo S m → LeadsTo R m
same_leads R S (Some (Part p)) e h = ((λ t x. (λ r. (h.0 t x).0 ((e t x).0 r), λ r. (e t x).1 ((h.0 t x).1 r))), h.1)
same_leads R S (Some (Whole c)) e h = λ t x. (λ r. (h t x).0 ((e t x).0 r), λ r. (e t x).1 ((h t x).1 r))
same_leads R S (Some Quote) e h = λ t x. (λ r. (h t x).0 ((e t x).0 r), λ r. (e t x).1 ((h t x).1 r))
same_leads R S None e h = λ t x r. h t x ((e t x).0 r)

-- digits of a code unit
left_after : (p : DigitPlace) → digits_left p ≡ suc (digits_after p)
left_after First = refl
left_after Second = refl
left_after Third = refl
left_after Fourth = refl

pub digit_at : (p : DigitPlace) (v c w : ℕ) (P : ℕ → List ℕ → Type 0) (t : List ℕ) → IsHexDigit c w → Digits (digits_left p) v (c ∷ t) P ↔ Digits (digits_after p) (v * 16 + w) t P
digit_at p v c w P t is = subst (λ (n : ℕ). Digits n v (c ∷ t) P ↔ Digits (digits_after p) (v * 16 + w) t P) (sym (left_after p)) (digit (digits_after p) v c w P t is)

pub no_digit_at : (p : DigitPlace) (v c : ℕ) (P : ℕ → List ℕ → Type 0) (t : List ℕ) → ((w : ℕ) → IsHexDigit c w → ⊥) → Digits (digits_left p) v (c ∷ t) P → ⊥
no_digit_at p v c P t never h = no_digit (digits_after p) v c P t never (subst (λ (n : ℕ). Digits n v (c ∷ t) P) (left_after p) h)

-- the number of digits that are left, by the place
pub same_digits : (p q : DigitPlace) (n v : ℕ) (P : List ℕ → ℕ → List ℕ → Type 0) → p ≡ q → digits_after q ≡ n → (t x : List ℕ) → Digits (digits_after p) v t (P x) ↔ Digits n v t (P x)
same_digits p q n v P e f t x = subst (λ (k : ℕ). Digits k v t (P x) ↔ Digits n v t (P x)) (sym (ap digits_after e ∙ f)) (λ h. h, λ h. h)

pub below_place : (p q : DigitPlace) (v : ℕ) → p ≡ q → v < 16 * values_before p → v < 16 * values_before q
below_place p q v e l = subst (λ (z : DigitPlace). v < 16 * values_before z) e l

pub high_unit : (u : ℕ) → u / 1024 ≡ 54 → (t x : List ℕ) → AfterUnit u t x ↔ AfterHigh u t x
high_unit u e t x = (by, λ h. inr ((omega arith, omega arith), h))
  where
    by : AfterUnit u t x → AfterHigh u t x
    by (inl h) = absurd (⊎_elim (λ k. omega (arith, k)) (λ k. omega (arith, k.0)) (scalar_cases u h.0))
    by (inr h) = h.1

-- bytes of a character in UTF-8
pub last_byte : (v least most c w : ℕ) → least ≤ c → c ≤ most → w ≡ with_bits v c → (t x : List ℕ) → Continues 0 v least most (c ∷ t) x ↔ (IsScalar w × FollowedBy w t x)
last_byte v least most c w l u e t x = (
  (λ h. let k = heads h.4 in
      let same : w ≡ with_bits v h.0 = omega (arith, k.0) in
      (subst IsScalar (sym same) h.5, begins.then_at w (with_bits v h.0) h.1 t x same k.1 h.6)),
  λ h. (c, t, l, u, refl, subst IsScalar e h.0, begins.then_at (with_bits v c) w t t x (sym e) refl h.1),
)

pub next_byte : (n v least most c w : ℕ) → least ≤ c → c ≤ most → w ≡ with_bits v c → (t x : List ℕ) → Continues (suc n) v least most (c ∷ t) x ↔ Continues n w 128 191 t x
next_byte n v least most c w l u e t x = (
  (λ h. let k = heads h.4 in
      let same : with_bits v h.0 ≡ w = omega (arith, k.0) in
      subst (λ (z : List ℕ). Continues n w 128 191 z x) (sym k.1) (subst (λ (z : ℕ). Continues n z 128 191 h.1 x) same h.5)),
  λ h. (c, t, l, u, refl, subst (λ (z : ℕ). Continues n z 128 191 t x) e h),
)

pub ends_bytes : (left : BytesLeft) (v least most : ℕ) → 128 ≤ least → least ≤ most → AreScalar (values_after left) (with_bits v least) (with_bits v most) → (t x : List ℕ) × Continues (bytes_after left) v least most t x
ends_bytes One v least most l o are = ends_one v least most l o are
ends_bytes Two v least most l o are = ends_two v least most l o are
ends_bytes Three v least most l o are = ends_three v least most l o are

-- the bytes that may follow the first
min_other : (c : ℕ) → c ≢ 224 → c ≢ 240 → second_byte_min c ≡ 128
min_other c m n = rw (ne_eqb c 224 m, ne_eqb c 240 n)

max_other : (c : ℕ) → c ≢ 237 → c ≢ 244 → second_byte_max c ≡ 191
max_other c m n = rw (ne_eqb c 237 m, ne_eqb c 244 n)

pub record Starts (R S : List ℕ → List ℕ → Type 0) : Type 0 where
  pub same : (t x : List ℕ) → R t x ↔ S t x
  pub ends : (t x : List ℕ) × S t x

pub two_bytes : (c v : ℕ) → v ≡ c - 192 → 194 ≤ c → c < 224 → Starts (λ (t x : List ℕ). Characters (c ∷ t) x) (Continues 0 v 128 191)
two_bytes c v e l u = record {
  same = λ t x. (
    (λ h. let p = long c t x (omega arith) h in two_ahead c t x v e l u p (begins.shape_of (c ∷ t) x p)),
    two_back c t x v e l u,
  );
  ends = ends_one v 128 191 (omega arith) (omega arith) (λ h. absurd (omega (arith, h)));
}

module _ (c v least most : ℕ) (min : least ≡ second_byte_min c) (max : most ≡ second_byte_max c) where
  pub three_bytes : v ≡ c - 224 → 224 ≤ c → c < 240 → Starts (λ (t x : List ℕ). Characters (c ∷ t) x) (Continues 1 v least most)
  three_bytes e l u =
      let first : (c ≡ 224 → least ≡ 160) = λ k. min ∙ ap second_byte_min k in
      let other : (225 ≤ c → least ≡ 128) = λ k. min ∙ min_other c (λ z. omega (arith, z, k)) (λ z. omega (arith, z)) in
      let surrogate : (c ≡ 237 → most ≡ 159) = λ k. max ∙ ap second_byte_max k in
      let below : (c < 237 → most ≡ 191) = λ k. max ∙ max_other c (λ z. omega (arith, z, k)) (λ z. omega (arith, z)) in
      let above : (238 ≤ c → most ≡ 191) = λ k. max ∙ max_other c (λ z. omega (arith, z, k)) (λ z. omega (arith, z)) in
      let low : 128 ≤ least = ⊎_elim (λ z. omega (arith, first, other)) (λ z. omega (arith, first, other)) (cases_lt 224 c) in
      let order : least ≤ most = ⊎_elim (λ z. omega (arith, surrogate z, other (omega arith))) (λ z. ⊎_elim (λ y. ⊎_elim (λ w. omega (arith, below y, first (omega arith))) (λ w. omega (arith, below y, other (omega arith))) (cases_lt c 225)) (λ y. omega (arith, above (omega arith), other (omega arith))) z) (cases_order c 237) in
      record {
        same = λ t x. (
          (λ h. let p = long c t x (omega arith) h in three_ahead c t x v least most e l u first other surrogate below above p (scalar_cases p.code p.is.0) (begins.shape_of (c ∷ t) x p)),
          three_back c t x v least most e l u first other surrogate below above,
        );
        ends = ends_two v least most low order (λ h. ⊎_elim
            (λ z. absurd (omega (arith, h, surrogate z)))
            (λ z. ⊎_elim (λ y. absurd (omega (arith, h, below y))) (λ y. (omega (arith, other (omega arith)), omega (arith, above (omega arith)))) z)
            (cases_order c 237));
      }

  pub four_bytes : v ≡ c - 240 → 240 ≤ c → c < 245 → Starts (λ (t x : List ℕ). Characters (c ∷ t) x) (Continues 2 v least most)
  four_bytes e l u =
      let first : (c ≡ 240 → least ≡ 144) = λ k. min ∙ ap second_byte_min k in
      let other : (241 ≤ c → least ≡ 128) = λ k. min ∙ min_other c (λ z. omega (arith, z)) (λ z. omega (arith, z, k)) in
      let last : (c ≡ 244 → most ≡ 143) = λ k. max ∙ ap second_byte_max k in
      let below : (c < 244 → most ≡ 191) = λ k. max ∙ max_other c (λ z. omega (arith, z)) (λ z. omega (arith, z, k)) in
      let low : 128 ≤ least = ⊎_elim (λ z. omega (arith, other z)) (λ z. omega (arith, first (omega arith))) (cases_lt 240 c) in
      let small : least ≤ 144 = ⊎_elim (λ z. omega (arith, other z)) (λ z. omega (arith, first (omega arith))) (cases_lt 240 c) in
      let order : least ≤ most = ⊎_elim (λ z. omega (arith, below z, small)) (λ z. omega (arith, last (omega arith), other (omega arith))) (cases_lt c 244) in
      record {
        same = λ t x. (
          (λ h. let p = long c t x (omega arith) h in four_ahead c t x v least most e l u first other last below p (begins.shape_of (c ∷ t) x p)),
          four_back c t x v least most e l u first other last below,
        );
        ends = ends_three v least most low order (λ h. (
          ⊎_elim (λ z. omega (arith, other z)) (λ z. omega (arith, first (omega arith))) (cases_lt 240 c),
          ⊎_elim (λ z. omega (arith, below z)) (λ z. omega (arith, last (omega arith))) (cases_lt c 244),
        ));
      }
