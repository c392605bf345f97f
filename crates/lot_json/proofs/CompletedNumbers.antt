-- A number is decided by its first fifteen digits, and by an exponent up to 2^64.
use Rattle.std.proofs.Common.{◌≡◌, ℕ, ℤ, pos, negsuc, zero, suc, ◌+◌, ◌-◌, ◌*◌, ◌/◌, ◌%◌, ◌^◌, ◌<◌, ◌≤◌, ◌+ℤ◌, ◌-ℤ◌, ⊎_elim, Bool, true, false, List, [], ◌∷◌, ◌++◌, length, nat_le, if◌then◌else◌, sym, ◌∙◌, ap, subst, arith, mul-one, add-zero, lit<}
use Rattle.std.proofs.Math.Nat.{pow-suc, one-le-pow, le-mul_of_pos_right, mul-le-mul_right, div-div-eq-div-mul, div-eq_of_lt, pow-le-pow_right}
use Rattle.std.proofs.lemmas.Nat.{pow-add, le-div, div-mul-add}
use Rattle.std.proofs.lemmas.Int.{ints}
use Rattle.std.proofs.lemmas.Bool.{cases_lt}
use Rattle.std.proofs.lemmas.Bool.Decides.{nat_tests}
use Rattle.lot_json.specs.declared.tree.number.Number.TheVariants.{Beyond}
use Rattle.lot_json.specs.declared.tokens.number_token.NumberToken.{NumberToken}
use Rattle.lot_json.specs.NumberToken.{IsDigit, AreDigits, append_digits, scaled, number_of, micro}
use Rattle.lot_json.specs.NumberRest.{completed_number, signed_power, HasRoom}
use Rattle.lot_json.specs.NumberSteps.{CountsWhole, CountsDecimal}

-- ---- digits after a number

one_more : (n d p r : ℕ) → d ≤ 9 → r < p → (d * p + r < 10 * p) × ((10 * n + d) * p + r ≡ n * (10 * p) + (d * p + r))
one_more n d p r le lt = (omega (arith, mul-le-mul_right {m = d} {n = 9} p le), omega arith)

pub append_digits-is : (n : ℕ) (cs : List ℕ) → AreDigits cs → (r : ℕ) × (r < 10 ^ length cs) × (append_digits n cs ≡ n * 10 ^ length cs + r)
append_digits-is n [] ds = (0, lit< tt, sym (simp (mul-one, add-zero)))
append_digits-is n (c ∷ cs) ds =
    let q = append_digits-is (10 * n + (c - 48)) cs ds.1 in
    let e : 10 ^ suc (length cs) ≡ 10 * 10 ^ length cs = omega (arith, pow-suc 10 (length cs)) in
    let k = one_more n (c - 48) (10 ^ length cs) q.0 (omega (arith, ds.0)) q.1 in (
      (c - 48) * 10 ^ length cs + q.0,
      subst (λ (z : ℕ). (c - 48) * 10 ^ length cs + q.0 < z) (sym e) k.0,
      q.2 ∙ k.1 ∙ ap (λ (z : ℕ). n * z + ((c - 48) * 10 ^ length cs + q.0)) (sym e),
    )

pub append_digits-le : (n : ℕ) (cs : List ℕ) → n ≤ append_digits n cs
append_digits-le n [] = omega arith
append_digits-le n (c ∷ cs) = omega (arith, append_digits-le (10 * n + (c - 48)) cs)

pub AreDigits-append : (xs ys : List ℕ) → AreDigits xs → AreDigits ys → AreDigits (xs ++ ys)
AreDigits-append [] ys a b = b
AreDigits-append (x ∷ xs) ys a b = (a.0, AreDigits-append xs ys a.1 b)

-- ---- numbers out of range

both_beyond : (minus : Bool) (a b : ℕ) → 10 ^ 13 < a → 10 ^ 13 < b → number_of minus a ≡ number_of minus b
both_beyond minus a b h k = grind (arith, nat_tests)

pos_pow : (k : ℕ) → 0 < 10 ^ k
pos_pow k = omega (arith, one-le-pow k 10 (omega arith))

le_raised : (n k : ℕ) → n ≤ n * 10 ^ k
le_raised n k = le-mul_of_pos_right n (pos_pow k)

-- ---- digits after the fifteenth

-- A quotient by a power of ten does not see the digits that are divided away.
divided : (n r k i : ℕ) → r < 10 ^ k → (n * 10 ^ k + r) / 10 ^ (k + i) ≡ n / 10 ^ i
divided n r k i lt =
    ap (λ (z : ℕ). (n * 10 ^ k + r) / z) (pow-add 10 k i)
    ∙ sym (div-div-eq-div-mul (n * 10 ^ k + r) (10 ^ k) (10 ^ i))
    ∙ ap (λ (z : ℕ). z / 10 ^ i) (div-mul-add n (10 ^ k) r lt)

low : (n r k i : ℕ) → r < 10 ^ k → scaled (n * 10 ^ k + r) (negsuc (k + i)) ≡ scaled n (negsuc i)
low n r k i lt =
    let e : k + i + 1 ≡ k + (i + 1) = omega arith in
    let a : (n * 10 ^ k + r) / 10 ^ (k + i + 1) ≡ n / 10 ^ (i + 1) = ap (λ (z : ℕ). (n * 10 ^ k + r) / 10 ^ z) e ∙ divided n r k (i + 1) lt in
    ap (λ (z : ℕ). z + (if nat_le 5 ((n * 10 ^ k + r) / 10 ^ (k + i) % 10) then 1 else 0)) a
    ∙ ap (λ (z : ℕ). n / 10 ^ (i + 1) + (if nat_le 5 (z % 10) then 1 else 0)) (divided n r k i lt)

turned : (n a b : ℕ) → n * (a * b) ≡ n * b * a
turned n a b = omega arith

high : (n r j i : ℕ) → 10 ^ 14 ≤ n → 10 ^ 13 < (n * 10 ^ (j + 1 + i) + r) / 10 ^ (j + 1)
high n r j i h =
    let e : n * 10 ^ i * 10 ^ (j + 1) ≡ n * 10 ^ (j + 1 + i) = sym (ap (λ (z : ℕ). n * z) (pow-add 10 (j + 1) i) ∙ turned n (10 ^ (j + 1)) (10 ^ i)) in
    omega (arith, le_raised n i, le-div (n * 10 ^ i) (n * 10 ^ (j + 1 + i) + r) (10 ^ (j + 1)) (pos_pow (j + 1)) (omega arith))

is_high : (minus : Bool) (n r k j i : ℕ) → 10 ^ 14 ≤ n → k ≡ j + 1 + i → number_of minus (scaled (n * 10 ^ k + r) (negsuc j)) ≡ number_of minus (scaled n (negsuc j +ℤ pos k))
is_high minus n r k j i h e =
    let z : negsuc j +ℤ pos k ≡ pos i = omega (arith, ints) in
    let a : 10 ^ 13 < (n * 10 ^ k + r) / 10 ^ (j + 1) = subst (λ (x : ℕ). 10 ^ 13 < (n * 10 ^ x + r) / 10 ^ (j + 1)) (sym e) (high n r j i h) in
    both_beyond minus (scaled (n * 10 ^ k + r) (negsuc j)) (n * 10 ^ i) (omega arith) (omega (arith, le_raised n i))
    ∙ ap (λ (x : ℤ). number_of minus (scaled n x)) (sym z)

is_low : (minus : Bool) (n r k j i : ℕ) → r < 10 ^ k → j ≡ k + i → number_of minus (scaled (n * 10 ^ k + r) (negsuc j)) ≡ number_of minus (scaled n (negsuc j +ℤ pos k))
is_low minus n r k j i lt e =
    let z : negsuc j +ℤ pos k ≡ negsuc i = omega (arith, ints) in
    ap (λ (x : ℕ). number_of minus (scaled (n * 10 ^ k + r) (negsuc x))) e
    ∙ ap (number_of minus) (low n r k i lt)
    ∙ ap (λ (x : ℤ). number_of minus (scaled n x)) (sym z)

pub scaled_first : (minus : Bool) (n r k : ℕ) (z : ℤ) → 10 ^ 14 ≤ n → r < 10 ^ k → number_of minus (scaled (n * 10 ^ k + r) z) ≡ number_of minus (scaled n (z +ℤ pos k))
scaled_first minus n r k (pos j) h lt = both_beyond minus _ _ (omega (arith, le_raised (n * 10 ^ k + r) j, le_raised n k)) (omega (arith, le_raised n (j + k)))
scaled_first minus n r k (negsuc j) h lt = ⊎_elim (λ (above : j < k). is_high minus n r k j (k - (j + 1)) h (omega arith)) (λ (below : k ≤ j). is_low minus n r k j (j - k) lt (omega arith)) (cases_lt j k)

-- The number of digits of which the first fifteen are n.
pub micro_first : (minus : Bool) (n places : ℕ) (power : ℤ) (cs : List ℕ) → 10 ^ 14 ≤ n → AreDigits cs
    → micro minus (append_digits n cs) places power ≡ micro minus n places (power +ℤ pos (length cs))
micro_first minus n places power cs h ds =
    let q = append_digits-is n cs ds in
    let e : ((power -ℤ pos places) +ℤ pos 6) +ℤ pos (length cs) ≡ ((power +ℤ pos (length cs)) -ℤ pos places) +ℤ pos 6 = omega (arith, ints) in
    ap (λ (z : ℕ). micro minus z places power) q.2
    ∙ scaled_first minus n q.0 (length cs) ((power -ℤ pos places) +ℤ pos 6) h q.1
    ∙ ap (λ (z : ℤ). number_of minus (scaled n z)) e

-- ---- one digit more

-- A digit of the whole part that is kept.
pub keeps_whole : (c x : ℕ) (s : NumberToken) → x ≡ 10 * s.lead + (c - 48) → CountsWhole c s (record s { lead = x })
unfolding HasRoom
keeps_whole c x s e = record {
  counts = λ whole decimals power _ _. ap (λ (z : ℕ). micro s.minus (append_digits z (whole ++ decimals)) (s.places + length decimals) (power +ℤ pos s.dropped)) (sym e);
  room = λ n h. omega (arith, h);
}

-- A digit after the point that is kept.
pub keeps_decimal : (c x : ℕ) (s : NumberToken) → x ≡ 10 * s.lead + (c - 48) → CountsDecimal c s (record s { lead = x; places = s.places + 1 })
unfolding HasRoom
keeps_decimal c x s e = record {
  counts = λ decimals power _.
      ap (λ (z : ℕ). micro s.minus (append_digits z decimals) (s.places + suc (length decimals)) (power +ℤ pos s.dropped)) (sym e)
      ∙ ap (λ (z : ℕ). micro s.minus (append_digits x decimals) z (power +ℤ pos s.dropped)) (omega arith);
  room = λ n h. omega (arith, h);
}

-- A digit of the whole part that is dropped.
pub drops_whole : (c : ℕ) (s : NumberToken) → 10 ^ 14 ≤ s.lead → IsDigit c → CountsWhole c s (record s { dropped = s.dropped + 1 })
unfolding HasRoom
drops_whole c s full d = record {
  counts = λ whole decimals power a b.
      let k : AreDigits (whole ++ decimals) = AreDigits-append whole decimals a b in
      let e : (power +ℤ pos s.dropped) +ℤ pos (suc (length (whole ++ decimals))) ≡ (power +ℤ pos (s.dropped + 1)) +ℤ pos (length (whole ++ decimals)) = omega (arith, ints) in
      micro_first s.minus s.lead (s.places + length decimals) (power +ℤ pos s.dropped) (c ∷ (whole ++ decimals)) full (d, k)
      ∙ ap (micro s.minus s.lead (s.places + length decimals)) e
      ∙ sym (micro_first s.minus s.lead (s.places + length decimals) (power +ℤ pos (s.dropped + 1)) (whole ++ decimals) full k);
  room = λ n h. omega (arith, h);
}

-- A digit after the point that is dropped.
pub drops_decimal : (c : ℕ) (s : NumberToken) → 10 ^ 14 ≤ s.lead → IsDigit c → CountsDecimal c s s
unfolding HasRoom
drops_decimal c s full d = record {
  counts = λ decimals power b.
      let e : (((power +ℤ pos s.dropped) +ℤ pos (suc (length decimals))) -ℤ pos (s.places + suc (length decimals))) +ℤ pos 6
      ≡ (((power +ℤ pos s.dropped) +ℤ pos (length decimals)) -ℤ pos (s.places + length decimals)) +ℤ pos 6 = omega (arith, ints) in
      micro_first s.minus s.lead (s.places + suc (length decimals)) (power +ℤ pos s.dropped) (c ∷ decimals) full (d, b)
      ∙ ap (λ (z : ℤ). number_of s.minus (scaled s.lead z)) e
      ∙ sym (micro_first s.minus s.lead (s.places + length decimals) (power +ℤ pos s.dropped) decimals full b);
  room = λ n h. omega (arith, h);
}

-- ---- an exponent so large that more of it changes nothing

far : (n k : ℕ) → 0 < n → 14 ≤ k → 10 ^ 13 < n * 10 ^ k
far n k h i = omega (arith, pow-le-pow_right {n = 10} (omega arith) {i = 14} {j = k} i, mul-le-mul_right {m = 1} {n = n} (10 ^ k) h)

pub raised_same : (minus : Bool) (n j k : ℕ) → 14 ≤ j → 14 ≤ k → number_of minus (n * 10 ^ j) ≡ number_of minus (n * 10 ^ k)
raised_same minus zero j k h i = ap (number_of minus) (omega arith)
raised_same minus (suc n) j k h i = both_beyond minus _ _ (far (suc n) j (omega arith) h) (far (suc n) k (omega arith) i)

-- Less than 10^k is nothing after k + 1 places.
pub lowered_away : (n k : ℕ) → n < 10 ^ k → scaled n (negsuc k) ≡ 0
lowered_away n k h =
    let more : 10 ^ k ≤ 10 ^ (k + 1) = pow-le-pow_right {n = 10} (omega arith) (omega arith) in
    ap (λ (z : ℕ). z + (if nat_le 5 (n / 10 ^ k % 10) then 1 else 0)) (div-eq_of_lt {n = n} {m = 10 ^ (k + 1)} (omega arith))
    ∙ ap (λ (z : ℕ). 0 + (if nat_le 5 (z % 10) then 1 else 0)) (div-eq_of_lt h)

pub tiny : (n k : ℕ) → n < 2 ^ 64 → 20 ≤ k → n < 10 ^ k
tiny n k h i = omega (arith, pow-le-pow_right {n = 10} (omega arith) {i = 20} {j = k} i)

pub settled_far : (minus : Bool) (a b : ℕ) (s : NumberToken) → HasRoom (2 ^ 63) s → s.lead < 2 ^ 64 → 2 ^ 64 - 1 ≤ a → 2 ^ 64 - 1 ≤ b
    → completed_number s [] [] (signed_power minus a) ≡ completed_number s [] [] (signed_power minus b)
unfolding HasRoom
settled_far false a b s room small h k =
    let up : (n : ℕ) → 2 ^ 64 - 1 ≤ n → ((pos n +ℤ pos s.dropped) -ℤ pos (s.places + 0)) +ℤ pos 6 ≡ pos (n + s.dropped + 6 - s.places) = λ n i. omega (arith, ints, room, i) in
    ap (λ (z : ℤ). number_of s.minus (scaled s.lead z)) (up a h)
    ∙ raised_same s.minus s.lead (a + s.dropped + 6 - s.places) (b + s.dropped + 6 - s.places) (omega (arith, room)) (omega (arith, room))
    ∙ sym (ap (λ (z : ℤ). number_of s.minus (scaled s.lead z)) (up b k))
settled_far true a b s room small h k =
    let down : (n : ℕ) → 2 ^ 64 - 1 ≤ n → (((pos 0 -ℤ pos n) +ℤ pos s.dropped) -ℤ pos (s.places + 0)) +ℤ pos 6 ≡ negsuc (n + s.places - s.dropped - 7) = λ n i. omega (arith, ints, room, i) in
    ap (λ (z : ℤ). number_of s.minus (scaled s.lead z)) (down a h)
    ∙ ap (number_of s.minus) (lowered_away s.lead (a + s.places - s.dropped - 7) (tiny _ _ small (omega (arith, room)))
    ∙ sym (lowered_away s.lead (b + s.places - s.dropped - 7) (tiny _ _ small (omega (arith, room)))))
    ∙ sym (ap (λ (z : ℤ). number_of s.minus (scaled s.lead z)) (down b k))

-- ---- what the token's number is computed from

pub raised_beyond : (minus : Bool) (n k : ℕ) → 0 < n → 14 ≤ k → Beyond ≡ number_of minus (scaled n (pos k))
raised_beyond minus n k h i = both_beyond minus (10 ^ 14) (n * 10 ^ k) (lit< tt) (far n k h i)

pub lowered_to : (n k p x : ℕ) → p ≡ 10 ^ k → x ≡ (if nat_le 5 (n / p % 10) then 1 else 0) → n / p / 10 + x ≡ scaled n (negsuc k)
lowered_to n k p x e i =
    let a : n / p / 10 ≡ n / 10 ^ (k + 1) = ap (λ (z : ℕ). n / z / 10) e ∙ div-div-eq-div-mul n (10 ^ k) 10 ∙ ap (λ (z : ℕ). n / z) (sym (pow-add 10 k 1)) in
    ap (λ (z : ℕ). z + x) a ∙ ap (λ (z : ℕ). n / 10 ^ (k + 1) + z) (i ∙ ap (λ (z : ℕ). if nat_le 5 (n / z % 10) then 1 else 0) e)

pub number_up : (s : NumberToken) (minus : Bool) (up down power r : ℕ) → minus ≡ false → up ≡ s.dropped + 6 + power → down ≡ s.places
    → number_of s.minus r ≡ number_of s.minus (scaled s.lead (pos up -ℤ pos down)) → number_of s.minus r ≡ completed_number s [] [] (signed_power minus power)
number_up s minus up down power r is a b e =
    let z : pos up -ℤ pos down ≡ ((pos power +ℤ pos s.dropped) -ℤ pos (s.places + 0)) +ℤ pos 6 = omega (arith, ints) in
    subst (λ (x : Bool). number_of s.minus r ≡ completed_number s [] [] (signed_power x power)) (sym is)
    (e ∙ ap (λ (x : ℤ). number_of s.minus (scaled s.lead x)) z)

pub number_down : (s : NumberToken) (minus : Bool) (up down power r : ℕ) → minus ≡ true → up ≡ s.dropped + 6 → down ≡ s.places + power
    → number_of s.minus r ≡ number_of s.minus (scaled s.lead (pos up -ℤ pos down)) → number_of s.minus r ≡ completed_number s [] [] (signed_power minus power)
number_down s minus up down power r is a b e =
    let z : pos up -ℤ pos down ≡ (((pos 0 -ℤ pos power) +ℤ pos s.dropped) -ℤ pos (s.places + 0)) +ℤ pos 6 = omega (arith, ints) in
    subst (λ (x : Bool). number_of s.minus r ≡ completed_number s [] [] (signed_power x power)) (sym is)
    (e ∙ ap (λ (x : ℤ). number_of s.minus (scaled s.lead x)) z)
