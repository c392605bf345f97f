-- Where no more of a number may follow, a number token ends at one place, and its text is of one number.
use Rattle.std.proofs.Common.{◌≡◌, ℕ, ℤ, pos, ◌-ℤ◌, ◌<◌, ◌⊎◌, inl, inr, Bool, true, false, List, [], ◌∷◌, ◌++◌, length, ap, sym, subst, ◌∙◌, refl, arith, append_assoc, if◌then◌else◌}
use Rattle.lot_json.specs.declared.tree.number.Number.{Number}
use Rattle.lot_json.specs.NumberToken.{IsNumberToken, IsDigit, AreDigits, AreSomeDigits, IsWholePart, IsFraction, IsPower, IsExponent, digits_value, micro}
use Rattle.lot_json.proofs.Utf8.{heads}
use Rattle.lot_json.proofs.Prefixes.{Stops}

-- no digit comes first
abbrev StopsDigits : List ℕ → Type 0
StopsDigits [] = Unit {0}
StopsDigits (c ∷ cs) = (c < 48) ⊎ (57 < c)

-- neither a digit nor the point comes first
abbrev StopsFraction : List ℕ → Type 0
StopsFraction [] = Unit {0}
StopsFraction (c ∷ cs) = (c < 46) ⊎ (57 < c)

fraction_digits : (r : List ℕ) → StopsFraction r → StopsDigits r
fraction_digits [] h = tt
fraction_digits (c ∷ r) (inl h) = inl (omega arith)
fraction_digits (c ∷ r) (inr h) = inr h

stops_fraction : (r : List ℕ) → Stops r → StopsFraction r
stops_fraction [] h = tt
stops_fraction (c ∷ r) (inl h) = inl (omega arith)
stops_fraction (c ∷ r) (inr (inl h)) = inr (omega arith)
stops_fraction (c ∷ r) (inr (inr h)) = inr (omega arith)

-- ---- digits

digit_on : (c : ℕ) (t r : List ℕ) → IsDigit c → StopsDigits r → r ≡ c ∷ t → ⊥
digit_on c t r d s e = by (subst (λ (z : List ℕ). StopsDigits z) e s)
  where
    by : (c < 48) ⊎ (57 < c) → ⊥
    by (inl h) = omega (arith, d.0)
    by (inr h) = omega (arith, d.1)

same_digits : (a b r q : List ℕ) → AreDigits a → AreDigits b → StopsDigits r → StopsDigits q → a ++ r ≡ b ++ q → (a ≡ b) × (r ≡ q)
same_digits [] [] r q d g s z e = (refl, e)
same_digits [] (c ∷ b) r q d g s z e = absurd (digit_on c (b ++ q) r g.0 s e)
same_digits (c ∷ a) [] r q d g s z e = absurd (digit_on c (a ++ r) q d.0 z (sym e))
same_digits (c ∷ a) (k ∷ b) r q d g s z e =
    let h = heads e in
    let i = same_digits a b r q d.1 g.1 s z h.1 in
    (ap (λ (y : ℕ). y ∷ a) h.0 ∙ ap (λ (y : List ℕ). k ∷ y) i.0, i.1)

some_digits : (a : List ℕ) → AreSomeDigits a → AreDigits a
some_digits [] h = tt
some_digits (c ∷ a) h = h

-- ---- the sign and the whole part

whole_digits : (w : List ℕ) → IsWholePart w → AreDigits w
whole_digits [] h = tt
whole_digits (c ∷ []) h = (h, tt)
whole_digits (c ∷ d ∷ w) h = ((omega (arith, h.0), h.1), h.2)

not_minus : (w a t : List ℕ) → IsWholePart w → 45 ∷ t ≡ w ++ a → ⊥
not_minus [] a t h e = h
not_minus (c ∷ []) a t h e = omega (arith, h.0, (heads e).0)
not_minus (c ∷ d ∷ w) a t h e = omega (arith, h.0, (heads e).0)

same_sign : (m n : Bool) (w v a b : List ℕ) → IsWholePart w → IsWholePart v → (if m then 45 ∷ [] else []) ++ (w ++ a) ≡ (if n then 45 ∷ [] else []) ++ (v ++ b) → (m ≡ n) × (w ++ a ≡ v ++ b)
same_sign true true w v a b h k e = (refl, (heads e).1)
same_sign true false w v a b h k e = absurd (not_minus v b (w ++ a) k e)
same_sign false true w v a b h k e = absurd (not_minus w a (v ++ b) h (sym e))
same_sign false false w v a b h k e = (refl, e)

-- ---- the fraction

point_on : (c : ℕ) (t r : List ℕ) → c ≡ 46 → StopsFraction r → r ≡ c ∷ t → ⊥
point_on c t r d s e = by (subst (λ (z : List ℕ). StopsFraction z) e s)
  where
    by : (c < 46) ⊎ (57 < c) → ⊥
    by (inl h) = omega arith
    by (inr h) = omega arith

same_fraction : (f g d k r q : List ℕ) → IsFraction f d → IsFraction g k → StopsFraction r → StopsFraction q → f ++ r ≡ g ++ q → (d ≡ k) × (r ≡ q)
same_fraction [] [] d k r q h i s z e = (h ∙ sym i, e)
same_fraction [] (c ∷ g) d k r q h i s z e = absurd (point_on c (g ++ q) r i.0 s e)
same_fraction (c ∷ f) [] d k r q h i s z e = absurd (point_on c (f ++ r) q h.0 z (sym e))
same_fraction (c ∷ f) (b ∷ g) d k r q h i s z e =
    let j = same_digits f g r q (some_digits f h.1) (some_digits g i.1) (fraction_digits r s) (fraction_digits q z) (heads e).1 in
    (h.2 ∙ j.0 ∙ sym i.2, j.1)

fraction_stops : (f d r : List ℕ) → IsFraction f d → StopsFraction r → StopsDigits (f ++ r)
fraction_stops [] d r h s = fraction_digits r s
fraction_stops (c ∷ f) d r h s = inl (omega (arith, h.0))

-- ---- the exponent

same_power : (f g : List ℕ) (u v : ℤ) (r q : List ℕ) → IsPower f u → IsPower g v → StopsDigits r → StopsDigits q → f ++ r ≡ g ++ q → (u ≡ v) × (r ≡ q)
same_power [] g u v r q h i s z e = absurd h
same_power (c ∷ f) [] u v r q h i s z e = absurd i
same_power (c ∷ f) (d ∷ g) u v r q (inl h) (inl i) s z e =
    let j = same_digits f g r q (some_digits f h.1) (some_digits g i.1) s z (heads e).1 in
    (h.2 ∙ ap (λ (y : List ℕ). pos (digits_value y)) j.0 ∙ sym i.2, j.1)
same_power (c ∷ f) (d ∷ g) u v r q (inl h) (inr (inl i)) s z e = absurd (omega (arith, h.0, i.0, (heads e).0))
same_power (c ∷ f) (d ∷ g) u v r q (inl h) (inr (inr i)) s z e = absurd (omega (arith, h.0, i.0.0.0, (heads e).0))
same_power (c ∷ f) (d ∷ g) u v r q (inr (inl h)) (inl i) s z e = absurd (omega (arith, h.0, i.0, (heads e).0))
same_power (c ∷ f) (d ∷ g) u v r q (inr (inl h)) (inr (inl i)) s z e =
    let j = same_digits f g r q (some_digits f h.1) (some_digits g i.1) s z (heads e).1 in
    (h.2 ∙ ap (λ (y : List ℕ). pos 0 -ℤ pos (digits_value y)) j.0 ∙ sym i.2, j.1)
same_power (c ∷ f) (d ∷ g) u v r q (inr (inl h)) (inr (inr i)) s z e = absurd (omega (arith, h.0, i.0.0.0, (heads e).0))
same_power (c ∷ f) (d ∷ g) u v r q (inr (inr h)) (inl i) s z e = absurd (omega (arith, h.0.0.0, i.0, (heads e).0))
same_power (c ∷ f) (d ∷ g) u v r q (inr (inr h)) (inr (inl i)) s z e = absurd (omega (arith, h.0.0.0, i.0, (heads e).0))
same_power (c ∷ f) (d ∷ g) u v r q (inr (inr h)) (inr (inr i)) s z e =
    let j = same_digits (c ∷ f) (d ∷ g) r q h.0 i.0 s z e in
    (h.1 ∙ ap (λ (y : List ℕ). pos (digits_value y)) j.0 ∙ sym i.1, j.1)

letter_on : (c : ℕ) (t r : List ℕ) → (c ≡ 101) ⊎ (c ≡ 69) → Stops r → r ≡ c ∷ t → ⊥
letter_on c t r d s e = by (subst (λ (z : List ℕ). Stops z) e s)
  where
    by : Stops (c ∷ t) → ⊥
    by h = omega (arith, h, d)

same_exponent : (f g : List ℕ) (u v : ℤ) (r q : List ℕ) → IsExponent f u → IsExponent g v → Stops r → Stops q → f ++ r ≡ g ++ q → (u ≡ v) × (r ≡ q)
same_exponent [] [] u v r q h i s z e = (h ∙ sym i, e)
same_exponent [] (c ∷ g) u v r q h i s z e = absurd (letter_on c (g ++ q) r i.0 s e)
same_exponent (c ∷ f) [] u v r q h i s z e = absurd (letter_on c (f ++ r) q h.0 z (sym e))
same_exponent (c ∷ f) (d ∷ g) u v r q h i s z e = same_power f g u v r q h.1 i.1 (digits r s) (digits q z) (heads e).1
  where
    digits : (r : List ℕ) → Stops r → StopsDigits r
    digits r s = fraction_digits r (stops_fraction r s)

exponent_stops : (f : List ℕ) (u : ℤ) (r : List ℕ) → IsExponent f u → Stops r → StopsFraction (f ++ r)
exponent_stops [] u r h s = stops_fraction r s
exponent_stops (c ∷ f) u r h s = inr (omega (arith, h.0))

-- ---- the token

parts : {f : List ℕ} {m : Number} (t : IsNumberToken f m) (r : List ℕ) → f ++ r ≡ (if t.minus then 45 ∷ [] else []) ++ (t.whole ++ (t.fraction ++ (t.exponent ++ r)))
parts t r =
    ap (λ (z : List ℕ). z ++ r) (t.spelled ∙ ap (λ (z : List ℕ). z ++ t.whole ++ t.fraction ++ t.exponent) t.is_sign) ∙ simp append_assoc

same_micro : {m n : Bool} {w v d k : List ℕ} {a b : ℤ} → m ≡ n → w ≡ v → d ≡ k → a ≡ b → micro m (digits_value (w ++ d)) (length d) a ≡ micro n (digits_value (v ++ k)) (length k) b
same_micro {m} {n} {w} {v} {d} {k} {a} {b} e f g h =
    ap (λ (z : Bool). micro z (digits_value (w ++ d)) (length d) a) e
    ∙ ap (λ (z : List ℕ). micro n (digits_value (z ++ d)) (length d) a) f
    ∙ ap (λ (z : List ℕ). micro n (digits_value (v ++ z)) (length z) a) g
    ∙ ap (λ (z : ℤ). micro n (digits_value (v ++ k)) (length k) z) h

pub same_number : {f g : List ℕ} {m n : Number} (r q : List ℕ) → IsNumberToken f m → IsNumberToken g n → Stops r → Stops q → f ++ r ≡ g ++ q → (m ≡ n) × (r ≡ q)
same_number r q t k s z e =
    let rest = exponent_stops t.exponent t.power r t.is_exponent s in
    let other = exponent_stops k.exponent k.power q k.is_exponent z in
    let a = same_sign t.minus k.minus t.whole k.whole _ _ t.is_whole k.is_whole (sym (parts t r) ∙ e ∙ parts k q) in
    let b = same_digits t.whole k.whole _ _ (whole_digits t.whole t.is_whole) (whole_digits k.whole k.is_whole)
    (fraction_stops t.fraction t.decimals _ t.is_fraction rest) (fraction_stops k.fraction k.decimals _ k.is_fraction other) a.1 in
    let c = same_fraction t.fraction k.fraction t.decimals k.decimals _ _ t.is_fraction k.is_fraction rest other b.1 in
    let d = same_exponent t.exponent k.exponent t.power k.power r q t.is_exponent k.is_exponent s z c.1 in
    (t.value ∙ same_micro a.0 b.0 c.0 d.0 ∙ sym k.value, d.1)

pub one_number : (b : List ℕ) (m n : Number) → IsNumberToken b m → IsNumberToken b n → m ≡ n
one_number b m n t k = (same_number [] [] t k tt tt refl).0
