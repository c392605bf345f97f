-- The innermost of what is open: the last of a list is the first where it is read backwards.
use Rattle.std.proofs.Common.{◌≡◌, ℕ, ◌-◌, ◌<◌, suc, List, [], ◌∷◌, ◌++◌, length, take, take-suc, get_or, set, reverse, refl, sym, ◌∙◌, ap, arith}
use Rattle.std.proofs.lemmas.List.{reverse-append, take-set, take_all, get_or-set_same, length-set}

-- The last of n after the others.
ends_with : {A : Type 0} (xs : List A) (n : ℕ) (d : A) → n ≡ length xs → 0 < n → xs ≡ take (n - 1) xs ++ get_or xs (n - 1) d ∷ []
ends_with xs n d e l =
    let whole : n ≡ suc (n - 1) = omega (arith, l) in
    sym (take_all n xs (omega (arith, e))) ∙ ap (λ (z : ℕ). take z xs) whole ∙ take-suc xs (n - 1) d (omega (arith, e, l))

pub innermost : {A : Type 0} (xs : List A) (n : ℕ) (o : A) → n ≡ length xs → 0 < n → o ≡ get_or xs (n - 1) o → reverse xs ≡ o ∷ reverse (take (n - 1) xs)
innermost {A} xs n o e l is =
    let prefix = take (n - 1) xs in
    ap reverse (ends_with xs n o e l) ∙ reverse-append prefix (get_or xs (n - 1) o ∷ []) ∙ ap (λ (z : A). z ∷ reverse prefix) (sym is)

pub last_set : {A : Type 0} (xs : List A) (n : ℕ) (o : A) → n ≡ length xs → 0 < n → reverse (set xs (n - 1) o) ≡ o ∷ reverse (take (n - 1) xs)
last_set {A} xs n o e l =
    let ys = set xs (n - 1) o in
    innermost ys n o (e ∙ sym (length-set xs (n - 1) o)) l (sym (get_or-set_same xs (n - 1) o o (omega (arith, e, l))))
    ∙ ap (λ (z : List A). o ∷ reverse z) (take-set xs (n - 1) o)

pub popped : {A : Type 0} (xs rest : List A) (o : A) → xs ≡ rest ++ o ∷ [] → reverse xs ≡ o ∷ reverse rest
popped xs rest o e = ap reverse e ∙ reverse-append rest (o ∷ [])

pub none_open : {A : Type 0} (xs : List A) → length xs ≡ 0 → reverse xs ≡ []
none_open [] e = refl
none_open (x ∷ xs) e = absurd (omega arith)
