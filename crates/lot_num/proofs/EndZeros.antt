use Rattle.std.proofs.Common.{◌≡◌, ◌≢◌, ℕ, ◌+◌, ◌-◌, ◌<◌, ◌≤◌, Bool, true, false, ◌&&◌, if◌then◌else◌, List, [], ◌∷◌, ◌++◌, length, take, get_or, refl, sym, ap, ◌∙◌, arith}
use Rattle.std.proofs.lemmas.Bool.{and_right, eq-eqb, ne_eqb}
use Rattle.std.proofs.lemmas.List.{take_more}
use Rattle.std.specs.List.{list_all}
use Rattle.lot_num.specs.Digits.{is_zero_digit, digit_byte, without_end_zeros}

not_all_zeros : (xs : List ℕ) (x : ℕ) → is_zero_digit x ≡ false → list_all is_zero_digit (xs ++ x ∷ []) ≡ false
not_all_zeros [] x other = rw other refl
not_all_zeros (y ∷ ys) x other = and_right (is_zero_digit y) _ (not_all_zeros ys x other)

all_zeros_push : (xs : List ℕ) (x : ℕ) → is_zero_digit x ≡ true → list_all is_zero_digit (xs ++ x ∷ []) ≡ list_all is_zero_digit xs
all_zeros_push [] x is_zero = rw is_zero refl
all_zeros_push (y ∷ ys) x is_zero = ap (λ (b : Bool). is_zero_digit y && b) (all_zeros_push ys x is_zero)

-- where the last digit is not 0, nothing is cut
without-push_other : (xs : List ℕ) (x : ℕ) → is_zero_digit x ≡ false → without_end_zeros (xs ++ x ∷ []) ≡ xs ++ x ∷ []
without-push_other [] x other = rw other refl
without-push_other (y ∷ ys) x other =
    rw (not_all_zeros (y ∷ ys) x other) (ap (λ (z : List ℕ). y ∷ z) (without-push_other ys x other))

-- where the last digit is 0, it is cut
without-push_zero : (xs : List ℕ) (x : ℕ) → is_zero_digit x ≡ true → without_end_zeros (xs ++ x ∷ []) ≡ without_end_zeros xs
without-push_zero [] x is_zero = rw is_zero refl
without-push_zero (y ∷ ys) x is_zero =
    rw (all_zeros_push (y ∷ ys) x is_zero)
    (ap (λ (z : List ℕ). if list_all is_zero_digit (y ∷ ys) then [] else y ∷ z) (without-push_zero ys x is_zero))

last_apart : (xs : List ℕ) (n : ℕ) → 0 < n → n ≤ length xs → take n xs ≡ take (n - 1) xs ++ get_or xs (n - 1) 0 ∷ []
last_apart xs n some within =
    let e : n ≡ n - 1 + 1 = omega arith in ap (λ (k : ℕ). take k xs) e ∙ take_more xs (n - 1) 0 (omega arith)

-- the same two facts for the first n digits of a text
pub cut_zero : (xs : List ℕ) (n : ℕ) → 0 < n → n ≤ length xs → get_or xs (n - 1) 0 ≡ digit_byte 0
    → without_end_zeros (take (n - 1) xs) ≡ without_end_zeros (take n xs)
cut_zero xs n some within zero_last =
    sym (ap without_end_zeros (last_apart xs n some within) ∙ without-push_zero (take (n - 1) xs) _ (eq-eqb _ _ zero_last))

pub keep_other : (xs : List ℕ) (n : ℕ) → 0 < n → n ≤ length xs → get_or xs (n - 1) 0 ≢ digit_byte 0
    → take n xs ≡ without_end_zeros (take n xs)
keep_other xs n some within other_last =
    let apart = last_apart xs n some within in
    apart ∙ sym (without-push_other (take (n - 1) xs) _ (ne_eqb _ _ other_last)) ∙ ap without_end_zeros (sym apart)
