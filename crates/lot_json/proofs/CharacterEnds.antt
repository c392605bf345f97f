-- Each part of a character that the machine reaches can end a string.
use Rattle.std.proofs.Common.{◌≡◌, ℕ, suc, ◌+◌, ◌*◌, ◌/◌, ◌<◌, ◌≤◌, ◌≢◌, ◌⊎◌, inl, inr, ⊎_elim, List, [], ◌∷◌, ◌++◌, refl, arith}
use Rattle.std.specs.Char.{IsScalar, encode_utf8}
use Rattle.std.proofs.Math.Utf8.{low_scalar}
use Rattle.std.proofs.lemmas.Bool.{cases_lt}
use Rattle.lot_json.specs.Characters.{Characters, close, more, short, pair_code}
use Rattle.lot_json.specs.Characters.{FollowedBy}
use Rattle.lot_json.specs.CodeUnit.{Digits, AfterHigh, AfterLow, AfterUnit}
use Rattle.lot_json.specs.ByteSequence.{AreScalar, Continues, with_bits}
use Rattle.lot_json.proofs.CharacterBegins.{high_scalar}

-- the closing quotation mark
pub closes : (c : ℕ) → FollowedBy c (34 ∷ []) (encode_utf8 c ++ [])
closes c = ([], close refl refl, refl)

pub ends_backslash : (t x : List ℕ) × Characters (92 ∷ t) x
ends_backslash = (34 ∷ 34 ∷ [], encode_utf8 34 ++ [], more (92 ∷ 34 ∷ []) (34 ∷ []) [] 34 (short 34 (inl (refl, refl)) refl) (close refl refl) refl refl)

-- after a high surrogate the escape \uDC00
low_follows : (high : ℕ) → AfterHigh high (92 ∷ 117 ∷ 68 ∷ 67 ∷ 48 ∷ 48 ∷ 34 ∷ []) (encode_utf8 (pair_code high 56320) ++ [])
low_follows high = (
  56320,
  92 ∷ 117 ∷ 68 ∷ 67 ∷ 48 ∷ 48 ∷ [],
  34 ∷ [],
  (
    68 ∷ 67 ∷ 48 ∷ 48 ∷ [],
    record {
      digit = (68, 67, 48, 48);
      worth = (13, 12, 0, 0);
      first = inr (inl (omega arith, omega arith, refl));
      second = inr (inl (omega arith, omega arith, refl));
      third = inl (omega arith, omega arith, refl);
      fourth = inl (omega arith, omega arith, refl);
      spelled = refl;
      value = refl;
    },
    refl,
  ),
  (omega arith, omega arith),
  refl,
  closes (pair_code high 56320),
)

pub ends_high : (high : ℕ) → (t x : List ℕ) × AfterHigh high t x
ends_high high = (92 ∷ 117 ∷ 68 ∷ 67 ∷ 48 ∷ 48 ∷ 34 ∷ [], encode_utf8 (pair_code high 56320) ++ [], low_follows high)

pub ends_high_backslash : (high : ℕ) → (t x : List ℕ) × AfterHigh high (92 ∷ t) x
ends_high_backslash high = (117 ∷ 68 ∷ 67 ∷ 48 ∷ 48 ∷ 34 ∷ [], encode_utf8 (pair_code high 56320) ++ [], low_follows high)

-- a whole unit that is no low surrogate
pub ends_unit : (u : ℕ) → u < 65536 → (u < 56320) ⊎ (57344 ≤ u) → (t x : List ℕ) × AfterUnit u t x
ends_unit u l (inr h) = (34 ∷ [], encode_utf8 u ++ [], inl (high_scalar u h (omega arith), closes u))
ends_unit u l (inl h) = ⊎_elim
    (λ k. (34 ∷ [], encode_utf8 u ++ [], inl (low_scalar u k, closes u)))
    (λ k. let e = ends_high u in (e.0, e.1, inr ((k, h), e.2)))
    (cases_lt u 55296)

-- a digit 0
zero_digit : (n v : ℕ) (P : ℕ → List ℕ → Type 0) (t : List ℕ) → Digits n (v * 16 + 0) t P → Digits (suc n) v (48 ∷ t) P
zero_digit n v P t h = (48, 0, t, inl (omega arith, omega arith, refl), refl, h)

not_low : (u : ℕ) → u / 1024 ≢ 55 → (u < 56320) ⊎ (57344 ≤ u)
not_low u n = ⊎_elim (λ h. inl h) (λ h. inr (omega arith)) (cases_lt u 56320)

pub ends_fourth : (v : ℕ) → v < 4096 → v / 64 ≢ 55 → (t x : List ℕ) × Digits 1 v t (λ (u : ℕ) (r : List ℕ). AfterUnit u r x)
ends_fourth v l n = let e = ends_unit (v * 16 + 0) (omega arith) (not_low (v * 16 + 0) (λ z. n (omega (arith, z)))) in
    (48 ∷ e.0, e.1, zero_digit 0 v (λ (u : ℕ) (r : List ℕ). AfterUnit u r e.1) e.0 e.2)

pub ends_third : (v : ℕ) → v < 256 → v / 4 ≢ 55 → (t x : List ℕ) × Digits 2 v t (λ (u : ℕ) (r : List ℕ). AfterUnit u r x)
ends_third v l n = let e = ends_fourth (v * 16 + 0) (omega arith) (λ z. n (omega (arith, z))) in
    (48 ∷ e.0, e.1, zero_digit 1 v (λ (u : ℕ) (r : List ℕ). AfterUnit u r e.1) e.0 e.2)

pub ends_second : (v : ℕ) → v < 16 → (t x : List ℕ) × Digits 3 v t (λ (u : ℕ) (r : List ℕ). AfterUnit u r x)
ends_second v l = let e = ends_third (v * 16 + 0) (omega arith) (λ z. omega (arith, z)) in
    (48 ∷ e.0, e.1, zero_digit 2 v (λ (u : ℕ) (r : List ℕ). AfterUnit u r e.1) e.0 e.2)

pub ends_first : (t x : List ℕ) × Digits 4 0 t (λ (u : ℕ) (r : List ℕ). AfterUnit u r x)
ends_first = let e = ends_second 0 (omega arith) in
    (48 ∷ e.0, e.1, zero_digit 3 0 (λ (u : ℕ) (r : List ℕ). AfterUnit u r e.1) e.0 e.2)

-- the digits of a low surrogate
module _ (high : ℕ) where
  pub low_ends_fourth : (v : ℕ) → v / 64 ≡ 55 → (t x : List ℕ) × Digits 1 v t (λ (u : ℕ) (r : List ℕ). AfterLow high u r x)
  low_ends_fourth v e = let u = v * 16 + 0 in (
    48 ∷ 34 ∷ [],
    encode_utf8 (pair_code high (v * 16 + 0)) ++ [],
    zero_digit 0 v (λ (u : ℕ) (r : List ℕ). AfterLow high u r (encode_utf8 (pair_code high (v * 16 + 0)) ++ [])) (34 ∷ []) ((omega arith, omega arith), closes (pair_code high (v * 16 + 0))),
  )

  pub low_ends_third : (v : ℕ) → v / 4 ≡ 55 → (t x : List ℕ) × Digits 2 v t (λ (u : ℕ) (r : List ℕ). AfterLow high u r x)
  low_ends_third v k = let e = low_ends_fourth (v * 16 + 0) (omega arith) in
      (48 ∷ e.0, e.1, zero_digit 1 v (λ (u : ℕ) (r : List ℕ). AfterLow high u r e.1) e.0 e.2)

  pub low_ends_second : (v : ℕ) → v ≡ 13 → (t x : List ℕ) × Digits 3 v t (λ (u : ℕ) (r : List ℕ). AfterLow high u r x)
  low_ends_second v k = let e = low_ends_third (v * 16 + 12) (omega arith) in
      (67 ∷ e.0, e.1, (67, 12, e.0, inr (inl (omega arith, omega arith, refl)), refl, e.2))

  pub low_ends_first : (t x : List ℕ) × Digits 4 0 t (λ (u : ℕ) (r : List ℕ). AfterLow high u r x)
  low_ends_first = let e = low_ends_second (0 * 16 + 13) refl in
      (68 ∷ e.0, e.1, (68, 13, e.0, inr (inl (omega arith, omega arith, refl)), refl, e.2))

-- the bytes of a character in UTF-8
scalar_at : (n low high c : ℕ) → AreScalar n low high → low ≤ high → c ≡ low * n → c < (high + 1) * n → IsScalar c
scalar_at n low high c are l e f = ⊎_elim
    (λ h. low_scalar c (omega arith))
    (λ h. let k = are h in high_scalar c (omega (arith, k.0)) (omega (arith, k.1)))
    (cases_lt ((high + 1) * n) 55297)

module _ (v least most : ℕ) (low : 128 ≤ least) (order : least ≤ most) where
  pub ends_one : AreScalar 1 (with_bits v least) (with_bits v most) → (t x : List ℕ) × Continues 0 v least most t x
  ends_one are = let c : ℕ = with_bits v least in (
    least ∷ 34 ∷ [],
    encode_utf8 (with_bits v least) ++ [],
    (least, 34 ∷ [], omega arith, order, refl, scalar_at 1 (with_bits v least) (with_bits v most) (with_bits v least) are (omega arith) (omega arith) (omega arith), closes (with_bits v least)),
  )

  pub ends_two : AreScalar 64 (with_bits v least) (with_bits v most) → (t x : List ℕ) × Continues 1 v least most t x
  ends_two are = (
    least ∷ 128 ∷ 34 ∷ [],
    encode_utf8 (with_bits (with_bits v least) 128) ++ [],
    (
      least,
      128 ∷ 34 ∷ [],
      omega arith,
      order,
      refl,
      (128, 34 ∷ [], omega arith, omega arith, refl, scalar_at 64 (with_bits v least) (with_bits v most) (with_bits (with_bits v least) 128) are (omega arith) (omega arith) (omega arith), closes (with_bits (with_bits v least) 128)),
    ),
  )

  pub ends_three : AreScalar 4096 (with_bits v least) (with_bits v most) → (t x : List ℕ) × Continues 2 v least most t x
  ends_three are = (
    least ∷ 128 ∷ 128 ∷ 34 ∷ [],
    encode_utf8 (with_bits (with_bits (with_bits v least) 128) 128) ++ [],
    (
      least,
      128 ∷ 128 ∷ 34 ∷ [],
      omega arith,
      order,
      refl,
      (
        128,
        128 ∷ 34 ∷ [],
        omega arith,
        omega arith,
        refl,
        (
          128,
          34 ∷ [],
          omega arith,
          omega arith,
          refl,
          scalar_at 4096 (with_bits v least) (with_bits v most) (with_bits (with_bits (with_bits v least) 128) 128) are (omega arith) (omega arith) (omega arith),
          closes (with_bits (with_bits (with_bits v least) 128) 128),
        ),
      ),
    ),
  )
