-- The first byte of an unescaped character, and the bytes after it.
use Rattle.std.proofs.Common.{◌≡◌, ◌↔◌, ℕ, ◌-◌, ◌<◌, ◌≤◌, ◌≢◌, ◌⊎◌, inl, inr, ⊎_elim, List, ◌∷◌, ◌++◌, ap, sym, subst, ◌∙◌, refl, arith}
use Rattle.std.specs.Char.{IsScalar, encode_utf8}
use Rattle.std.proofs.lemmas.Bool.{cases_lt, cases_order, le-ltb, le-leb, lt-ltb}
use Rattle.std.proofs.Math.Utf8.{low_scalar}
use Rattle.lot_json.specs.Characters.{Characters}
use Rattle.lot_json.specs.Characters.{FollowedBy}
use Rattle.lot_json.specs.ByteSequence.{Continues, with_bits}
use Rattle.lot_json.proofs.Utf8.{heads, Shape, one, two, three, four, shape, first_byte, encode_one, encode_two, encode_three, encode_four}
use Rattle.lot_json.proofs.Spellings.{Plain, unescaped_ahead, unescaped_back}

pub high_scalar : (c : ℕ) → 57344 ≤ c → c < 1114112 → IsScalar c
high_scalar c l h = rw (le-ltb c 55296 (omega arith), le-leb 57344 c l, lt-ltb c 1114112 h)

-- the same character and the same bytes after it
pub then_at : (c d : ℕ) (r t x : List ℕ) → c ≡ d → t ≡ r → FollowedBy d r x → FollowedBy c t x
then_at c d r t x e f h = (h.0, subst (λ (z : List ℕ). Characters z h.0) (sym f) h.1, h.2 ∙ ap (λ (z : ℕ). encode_utf8 z ++ h.0) (sym e))

pub control : (c : ℕ) (t x : List ℕ) → c < 32 → Characters (c ∷ t) x → ⊥
control c t x l h = by (unescaped_ahead c t x (λ e. omega (arith, e)) (λ e. omega (arith, e)) h)
  where
    by : Plain (c ∷ t) x → ⊥
    by p = ⊎_elim (λ k. omega (arith, k.1, p.is.1)) (λ k. omega (arith, k.1)) (first_byte c p.code t p.rest (shape p.code p.is.0) p.spelled)

pub not_first : (c : ℕ) (t x : List ℕ) → 128 ≤ c → (c < 194) ⊎ (244 < c) → Characters (c ∷ t) x → ⊥
not_first c t x l o h = by (unescaped_ahead c t x (λ e. omega (arith, e)) (λ e. omega (arith, e)) h) o
  where
    by : Plain (c ∷ t) x → (c < 194) ⊎ (244 < c) → ⊥
    by p (inl u) = ⊎_elim (λ k. omega (arith, k.0, k.1)) (λ k. omega (arith, k.1)) (first_byte c p.code t p.rest (shape p.code p.is.0) p.spelled)
    by p (inr u) = ⊎_elim (λ k. omega (arith, k.0, k.1)) (λ k. omega (arith, k.2)) (first_byte c p.code t p.rest (shape p.code p.is.0) p.spelled)

pub ascii : (c : ℕ) → 32 ≤ c → c < 128 → c ≢ 34 → c ≢ 92 → (t x : List ℕ) → Characters (c ∷ t) x ↔ FollowedBy c t x
ascii c l u q s t x = (
  λ h. by (unescaped_ahead c t x q s h),
  λ h. unescaped_back (c ∷ t) x (record { code = c; rest = t; is = (low_scalar c (omega arith), l, q, s); spelled = sym (ap (λ (z : List ℕ). z ++ t) (encode_one c u)); follows = h }),
)
  where
    by : Plain (c ∷ t) x → FollowedBy c t x
    by p = ⊎_elim (λ k. then_at c p.code p.rest t x k.1 k.2 p.follows) (λ k. absurd (omega (arith, k.1))) (first_byte c p.code t p.rest (shape p.code p.is.0) p.spelled)

pub shape_of : (b x : List ℕ) (p : Plain b x) → Shape p.code
shape_of b x p = shape p.code p.is.0

-- a first byte from 128 on
module _ (c : ℕ) (t x : List ℕ) where
  pub long : 128 ≤ c → Characters (c ∷ t) x → Plain (c ∷ t) x
  long l h = unescaped_ahead c t x (λ e. omega (arith, e)) (λ e. omega (arith, e)) h

  pub two_ahead : (v : ℕ) → v ≡ c - 192 → 194 ≤ c → c < 224 → (p : Plain (c ∷ t) x) → Shape p.code → Continues 0 v 128 191 t x
  two_ahead v w l u p (one k e) = let h = heads (p.spelled ∙ ap (λ (z : List ℕ). z ++ p.rest) e) in absurd (omega (arith, h.0))
  two_ahead v w l u p (two a b k m f s e) = let h = heads (p.spelled ∙ ap (λ (z : List ℕ). z ++ p.rest) e) in
      let same : with_bits v b ≡ p.code = omega (arith, h.0, f.0, f.1) in
      (b, p.rest, f.0, omega (arith, f.1), h.1, subst IsScalar (sym same) p.is.0, then_at (with_bits v b) p.code p.rest p.rest x same refl p.follows)
  two_ahead v w l u p (three a b d k m f g s e) = let h = heads (p.spelled ∙ ap (λ (z : List ℕ). z ++ p.rest) e) in absurd (omega (arith, h.0, f.0, f.1, g.0, g.1))
  two_ahead v w l u p (four a b d y k m f g i s e) = let h = heads (p.spelled ∙ ap (λ (z : List ℕ). z ++ p.rest) e) in absurd (omega (arith, h.0, f.0, f.1, g.0, g.1, i.0, i.1))

  pub two_back : (v : ℕ) → v ≡ c - 192 → 194 ≤ c → c < 224 → Continues 0 v 128 191 t x → Characters (c ∷ t) x
  two_back v w l u h = unescaped_back (c ∷ t) x (record {
    code = with_bits v h.0;
    rest = h.1;
    is = (h.5, omega (arith, h.2), (λ e. omega (arith, e, h.2)), λ e. omega (arith, e, h.2));
    spelled = ap (λ (z : List ℕ). c ∷ z) h.4 ∙ sym (ap (λ (z : List ℕ). z ++ h.1) (encode_two (with_bits v h.0) c h.0 l u (h.2, omega (arith, h.3)) (omega (arith, h.2))));
    follows = h.6;
  })

  module _ (v least most : ℕ) (bits : v ≡ c - 224) (l : 224 ≤ c) (u : c < 240)
      (first : c ≡ 224 → least ≡ 160) (other : 225 ≤ c → least ≡ 128) (surrogate : c ≡ 237 → most ≡ 159) (below : c < 237 → most ≡ 191) (above : 238 ≤ c → most ≡ 191) where
    three_low : 128 ≤ least
    three_low = ⊎_elim (λ z. omega arith) (λ z. omega arith) (cases_lt 224 c)

    three_high : most < 192
    three_high = ⊎_elim (λ z. omega arith) (λ z. ⊎_elim (λ y. omega arith) (λ y. omega arith) z) (cases_order c 237)

    pub three_ahead : (p : Plain (c ∷ t) x) → (p.code < 55296) ⊎ ((57344 ≤ p.code) × (p.code < 1114112)) → Shape p.code → Continues 1 v least most t x
    three_ahead p n (one k e) = let h = heads (p.spelled ∙ ap (λ (z : List ℕ). z ++ p.rest) e) in absurd (omega (arith, h.0))
    three_ahead p n (two a b k m f s e) = let h = heads (p.spelled ∙ ap (λ (z : List ℕ). z ++ p.rest) e) in absurd (omega (arith, h.0, f.0, f.1))
    three_ahead p n (three a b d k m f g s e) = let h = heads (p.spelled ∙ ap (λ (z : List ℕ). z ++ p.rest) e) in
        let same : with_bits (with_bits v b) d ≡ p.code = omega (arith, h.0, f.0, f.1, g.0, g.1) in
        let low : least ≤ b = ⊎_elim (λ z. omega (arith, h.0, f.0, f.1, g.0, g.1)) (λ z. omega (arith, h.0, f.0, f.1, g.0, g.1)) (cases_lt 224 c) in
        let high : b ≤ most = ⊎_elim (λ n. ⊎_elim (λ z. omega (arith, n, h.0, f.0, f.1, g.0, g.1)) (λ z. ⊎_elim (λ y. omega (arith, h.0, f.0, f.1, g.0, g.1)) (λ y. omega (arith, h.0, f.0, f.1, g.0, g.1)) z) (cases_order c 237))
        (λ n. ⊎_elim (λ z. omega (arith, n.0, h.0, f.0, f.1, g.0, g.1)) (λ z. ⊎_elim (λ y. omega (arith, h.0, f.0, f.1, g.0, g.1)) (λ y. omega (arith, h.0, f.0, f.1, g.0, g.1)) z) (cases_order c 237)) n in
        (b, d ∷ p.rest, low, high, h.1, (d, p.rest, g.0, omega (arith, g.1), refl, subst IsScalar (sym same) p.is.0, then_at (with_bits (with_bits v b) d) p.code p.rest p.rest x same refl p.follows))
    three_ahead p n (four a b d y k m f g i s e) = let h = heads (p.spelled ∙ ap (λ (z : List ℕ). z ++ p.rest) e) in absurd (omega (arith, h.0, f.0, f.1, g.0, g.1, i.0, i.1))

    pub three_back : Continues 1 v least most t x → Characters (c ∷ t) x
    three_back h =
        let k = h.5 in
        let low : 128 ≤ h.0 = omega (arith, three_low, h.2) in
        let high : h.0 < 192 = omega (arith, three_high, h.3) in
        let least_code : 2048 ≤ with_bits (with_bits v h.0) k.0 = ⊎_elim (λ z. omega (arith, h.2, low)) (λ z. omega (arith, h.2, low)) (cases_lt 224 c) in
        unescaped_back (c ∷ t) x (record {
          code = with_bits (with_bits v h.0) k.0;
          rest = k.1;
          is = (k.5, omega (arith, least_code), (λ e. omega (arith, e, least_code)), λ e. omega (arith, e, least_code));
          spelled = ap (λ (z : List ℕ). c ∷ z) (h.4 ∙ ap (λ (z : List ℕ). h.0 ∷ z) k.4)
              ∙ sym (ap (λ (z : List ℕ). z ++ k.1) (encode_three (with_bits (with_bits v h.0) k.0) c h.0 k.0 l u (low, high) (k.2, omega (arith, k.3)) least_code (omega arith)));
          follows = k.6;
        })

  module _ (v least most : ℕ) (bits : v ≡ c - 240) (l : 240 ≤ c) (u : c < 245)
      (first : c ≡ 240 → least ≡ 144) (other : 241 ≤ c → least ≡ 128) (last : c ≡ 244 → most ≡ 143) (below : c < 244 → most ≡ 191) where
    four_low : 128 ≤ least
    four_low = ⊎_elim (λ z. omega arith) (λ z. omega arith) (cases_lt 240 c)

    four_high : most < 192
    four_high = ⊎_elim (λ z. omega arith) (λ z. omega arith) (cases_lt c 244)

    pub four_ahead : (p : Plain (c ∷ t) x) → Shape p.code → Continues 2 v least most t x
    four_ahead p (one k e) = let h = heads (p.spelled ∙ ap (λ (z : List ℕ). z ++ p.rest) e) in absurd (omega (arith, h.0))
    four_ahead p (two a b k m f s e) = let h = heads (p.spelled ∙ ap (λ (z : List ℕ). z ++ p.rest) e) in absurd (omega (arith, h.0, f.0, f.1))
    four_ahead p (three a b d k m f g s e) = let h = heads (p.spelled ∙ ap (λ (z : List ℕ). z ++ p.rest) e) in absurd (omega (arith, h.0, f.0, f.1, g.0, g.1))
    four_ahead p (four a b d y k m f g i s e) = let h = heads (p.spelled ∙ ap (λ (z : List ℕ). z ++ p.rest) e) in
        let same : with_bits (with_bits (with_bits v b) d) y ≡ p.code = omega (arith, h.0, f.0, f.1, g.0, g.1, i.0, i.1) in
        let low : least ≤ b = ⊎_elim (λ z. omega (arith, h.0, f.0, f.1, g.0, g.1, i.0, i.1)) (λ z. omega (arith, h.0, f.0, f.1, g.0, g.1, i.0, i.1)) (cases_lt 240 c) in
        let high : b ≤ most = ⊎_elim (λ z. omega (arith, h.0, f.0, f.1, g.0, g.1, i.0, i.1)) (λ z. omega (arith, h.0, f.0, f.1, g.0, g.1, i.0, i.1)) (cases_lt c 244) in (
          b,
          d ∷ y ∷ p.rest,
          low,
          high,
          h.1,
          (
            d,
            y ∷ p.rest,
            g.0,
            omega (arith, g.1),
            refl,
            (
              y,
              p.rest,
              i.0,
              omega (arith, i.1),
              refl,
              subst IsScalar (sym same) p.is.0,
              then_at (with_bits (with_bits (with_bits v b) d) y) p.code p.rest p.rest x same refl p.follows,
            ),
          ),
        )

    pub four_back : Continues 2 v least most t x → Characters (c ∷ t) x
    four_back h =
        let k = h.5 in
        let j = k.5 in
        let low : 128 ≤ h.0 = omega (arith, four_low, h.2) in
        let high : h.0 < 192 = omega (arith, four_high, h.3) in
        let code : ℕ = with_bits (with_bits (with_bits v h.0) k.0) j.0 in
        let least_code : 65536 ≤ with_bits (with_bits (with_bits v h.0) k.0) j.0 = ⊎_elim (λ z. omega (arith, h.2, low)) (λ z. omega (arith, h.2, low)) (cases_lt 240 c) in
        unescaped_back (c ∷ t) x (record {
          code = code;
          rest = j.1;
          is = (j.5, omega (arith, least_code), (λ e. omega (arith, e, least_code)), λ e. omega (arith, e, least_code));
          spelled = ap (λ (z : List ℕ). c ∷ z) (h.4 ∙ ap (λ (z : List ℕ). h.0 ∷ z) (k.4 ∙ ap (λ (z : List ℕ). k.0 ∷ z) j.4))
              ∙ sym (ap (λ (z : List ℕ). z ++ j.1) (encode_four code c h.0 k.0 j.0 l (low, high) (k.2, omega (arith, k.3)) (j.2, omega (arith, j.3)) least_code (omega arith)));
          follows = j.6;
        })
