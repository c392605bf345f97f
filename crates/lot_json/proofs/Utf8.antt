-- The bytes of a character in UTF-8, and the character of such bytes.
use Rattle.std.proofs.Common.{◌≡◌, ℕ, ◌+◌, ◌-◌, ◌*◌, ◌/◌, ◌%◌, ◌<◌, ◌≤◌, ◌⊎◌, inl, inr, List, [], ◌∷◌, ◌++◌, ap, ◌∙◌, arith}
use Rattle.std.specs.Char.{IsScalar, encode_utf8}
use Rattle.std.proofs.lemmas.Bool.{cases_lt}
use Rattle.std.proofs.Math.Utf8.{scalar_cases}
use Rattle.std.proofs.str.Laws as laws

pub heads : {c d : ℕ} {r s : List ℕ} → c ∷ r ≡ d ∷ s → (c ≡ d) × (r ≡ s)
heads e = (cc, cc)

abbrev pub IsContinuation : ℕ → Type 0
IsContinuation b = (128 ≤ b) × (b < 192)

pub data Shape (c : ℕ) : Type 0 where
  one : c < 128 → encode_utf8 c ≡ c ∷ [] → Shape c
  two : (a b : ℕ) → 128 ≤ c → c < 2048 → IsContinuation b → a * 64 + b ≡ c + 12416 → encode_utf8 c ≡ a ∷ b ∷ [] → Shape c
  three : (a b d : ℕ) → 2048 ≤ c → c < 65536 → IsContinuation b → IsContinuation d → a * 4096 + b * 64 + d ≡ c + 925824 → encode_utf8 c ≡ a ∷ b ∷ d ∷ [] → Shape c
  four : (a b d e : ℕ) → 65536 ≤ c → c < 1114112 → IsContinuation b → IsContinuation d → IsContinuation e → a * 262144 + b * 4096 + d * 64 + e ≡ c + 63447168
      → encode_utf8 c ≡ a ∷ b ∷ d ∷ e ∷ [] → Shape c

below : (c : ℕ) → (c < 55296) ⊎ ((57344 ≤ c) × (c < 1114112)) → c < 1114112
below c (inl h) = omega arith
below c (inr h) = h.1

pub shape : (c : ℕ) → IsScalar c → Shape c
shape c s = by (cases_lt c 128) (cases_lt c 2048) (cases_lt c 65536)
  where
    by : (c < 128) ⊎ (128 ≤ c) → (c < 2048) ⊎ (2048 ≤ c) → (c < 65536) ⊎ (65536 ≤ c) → Shape c
    by (inl h) _ _ = one h (laws.one c h)
    by (inr l) (inl h) _ = two (192 + c / 64) (128 + c % 64) l h (omega arith, omega arith) (omega arith) (laws.two c l h)
    by (inr _) (inr l) (inl h) = three (224 + c / 4096) (128 + c / 64 % 64) (128 + c % 64) l h (omega arith, omega arith) (omega arith, omega arith) (omega arith) (laws.three c l h)
    by (inr _) (inr _) (inr l) = let top : c < 1114112 = below c (scalar_cases c s) in
        four (240 + c / 262144) (128 + c / 4096 % 64) (128 + c / 64 % 64) (128 + c % 64) l top (omega arith, omega arith) (omega arith, omega arith) (omega arith, omega arith) (omega arith) (laws.four c l)

-- the first byte says whether it is the whole character
pub first_byte : (c d : ℕ) (t r : List ℕ) → Shape d → c ∷ t ≡ encode_utf8 d ++ r → ((d < 128) × (c ≡ d) × (t ≡ r)) ⊎ ((128 ≤ d) × (194 ≤ c) × (c ≤ 244))
first_byte c d t r (one l e) s = let h = heads (s ∙ ap (λ (z : List ℕ). z ++ r) e) in inl (l, h.0, h.1)
first_byte c d t r (two a b l u f k e) s = let h = heads (s ∙ ap (λ (z : List ℕ). z ++ r) e) in inr (l, omega (arith, h.0, f.0, f.1), omega (arith, h.0, f.0, f.1))
first_byte c d t r (three a b x l u f g k e) s = let h = heads (s ∙ ap (λ (z : List ℕ). z ++ r) e) in inr (omega arith, omega (arith, h.0, f.0, f.1, g.0, g.1), omega (arith, h.0, f.0, f.1, g.0, g.1))
first_byte c d t r (four a b x y l u f g i k e) s = let h = heads (s ∙ ap (λ (z : List ℕ). z ++ r) e) in
    inr (omega arith, omega (arith, h.0, f.0, f.1, g.0, g.1, i.0, i.1), omega (arith, h.0, f.0, f.1, g.0, g.1, i.0, i.1))

pub encode_one : (c : ℕ) → c < 128 → encode_utf8 c ≡ c ∷ []
encode_one c l = laws.one c l

pub encode_two : (c a b : ℕ) → 194 ≤ a → a < 224 → IsContinuation b → c ≡ (a - 192) * 64 + (b - 128) → encode_utf8 c ≡ a ∷ b ∷ []
encode_two c a b l u f e =
    let p : 192 + c / 64 ≡ a = omega (arith, f.0, f.1) in
    let q : 128 + c % 64 ≡ b = omega (arith, f.0, f.1) in
    laws.two c (omega (arith, f.0)) (omega (arith, f.1)) ∙ cc (p, q)

pub encode_three : (c a b d : ℕ) → 224 ≤ a → a < 240 → IsContinuation b → IsContinuation d → 2048 ≤ c → c ≡ ((a - 224) * 64 + (b - 128)) * 64 + (d - 128) → encode_utf8 c ≡ a ∷ b ∷ d ∷ []
encode_three c a b d l u f g m e =
    let p : 224 + c / 4096 ≡ a = omega (arith, f.0, f.1, g.0, g.1) in
    let q : 128 + c / 64 % 64 ≡ b = omega (arith, f.0, f.1, g.0, g.1) in
    let s : 128 + c % 64 ≡ d = omega (arith, f.0, f.1, g.0, g.1) in
    laws.three c m (omega (arith, f.1, g.1)) ∙ cc (p, q, s)

pub encode_four : (c a b d x : ℕ) → 240 ≤ a → IsContinuation b → IsContinuation d → IsContinuation x → 65536 ≤ c
    → c ≡ (((a - 240) * 64 + (b - 128)) * 64 + (d - 128)) * 64 + (x - 128) → encode_utf8 c ≡ a ∷ b ∷ d ∷ x ∷ []
encode_four c a b d x l f g i m e =
    let p : 240 + c / 262144 ≡ a = omega (arith, f.0, f.1, g.0, g.1, i.0, i.1) in
    let q : 128 + c / 4096 % 64 ≡ b = omega (arith, f.0, f.1, g.0, g.1, i.0, i.1) in
    let s : 128 + c / 64 % 64 ≡ d = omega (arith, f.0, f.1, g.0, g.1, i.0, i.1) in
    let w : 128 + c % 64 ≡ x = omega (arith, f.0, f.1, g.0, g.1, i.0, i.1) in
    laws.four c m ∙ cc (p, q, s, w)
