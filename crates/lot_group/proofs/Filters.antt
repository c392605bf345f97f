-- Filters over lists whose items all pass, or none of them.
use Rattle.std.proofs.Common.{◌≡◌, List, [], ◌∷◌, ◌++◌, map, reverse, refl, ap, sym, ◌∙◌, subst, Bool, true, false, inl, inr}
use Rattle.std.proofs.lemmas.Bool.{cases_Bool}
use Rattle.std.proofs.lemmas.List.{reverse-append}
use Rattle.std.proofs.lemmas.List.Elements.{All-nil, All-cons}
use Rattle.std.specs.List.{filter, All}
use Rattle.std.specs.Prelude.{cond}

-- P holds of each item. The fact for a list is a pair, which is easier to match on than `All`.
abbrev pub Each : {X : Type 0} → (X → Type 0) → List X → Type 0
Each P [] = Unit {0}
Each P (x ∷ xs) = P x × Each P xs

pub Each-append : {X : Type 0} (P : X → Type 0) (xs ys : List X) → Each P xs → Each P ys → Each P (xs ++ ys)
Each-append P [] ys h k = k
Each-append P (x ∷ xs) ys h k = (h.0, Each-append P xs ys h.1 k)

pub Each-map : {X Y : Type 0} (P : X → Type 0) (f : Y → X) → ((y : Y) → P (f y)) → (ys : List Y) → Each P (map f ys)
Each-map P f h [] = tt
Each-map P f h (y ∷ ys) = (h y, Each-map P f h ys)

pub Each-filter : {X : Type 0} (P : X → Type 0) (p : X → Bool) (xs : List X) → Each P xs → Each P (filter p xs)
Each-filter P p [] h = tt
Each-filter P p (x ∷ xs) h =
    elim (p x) as (λ b. Each P (cond b (x ∷ filter p xs) (filter p xs))) [
      | true ↦ (h.0, Each-filter P p xs h.1)
      | false ↦ Each-filter P p xs h.1
    ]

pub Each-weaker : {X : Type 0} (P Q : X → Type 0) → ((x : X) → P x → Q x) → (xs : List X) → Each P xs → Each Q xs
Each-weaker P Q w [] h = tt
Each-weaker P Q w (x ∷ xs) h = (w x h.0, Each-weaker P Q w xs h.1)

-- What passes a filter passes its test.
pub filter_passed : {X : Type 0} (p : X → Bool) (xs : List X) → Each (λ x. p x ≡ true) (filter p xs)
filter_passed p [] = tt
filter_passed p (x ∷ xs) =
    elim (cases_Bool (p x)) [
      | inl h ↦
          subst (λ (b : Bool). Each (λ x. p x ≡ true) (cond b (x ∷ filter p xs) (filter p xs))) (sym h)
          (h, filter_passed p xs)
      | inr h ↦
          subst (λ (b : Bool). Each (λ x. p x ≡ true) (cond b (x ∷ filter p xs) (filter p xs))) (sym h)
          (filter_passed p xs)
    ]

pub filter_none : {X : Type 0} (p : X → Bool) (xs : List X) → Each (λ x. p x ≡ false) xs → filter p xs ≡ []
filter_none p [] h = refl
filter_none p (x ∷ xs) h = ap (λ (b : Bool). cond b (x ∷ filter p xs) (filter p xs)) h.0 ∙ filter_none p xs h.1

pub filter_all : {X : Type 0} (p : X → Bool) (xs : List X) → Each (λ x. p x ≡ true) xs → filter p xs ≡ xs
filter_all p [] h = refl
filter_all p (x ∷ xs) h =
    ap (λ (b : Bool). cond b (x ∷ filter p xs) (filter p xs)) h.0 ∙ ap (λ (z : List _). x ∷ z) (filter_all p xs h.1)

-- A filter of a map, where the tests agree.
pub filter_map : {X Y : Type 0} (f : Y → X) (p : X → Bool) (q : Y → Bool) (ys : List Y) →
    Each (λ y. p (f y) ≡ q y) ys → filter p (map f ys) ≡ map f (filter q ys)
filter_map f p q [] h = refl
filter_map f p q (y ∷ ys) h =
    ap (λ (b : Bool). cond b (f y ∷ filter p (map f ys)) (filter p (map f ys))) h.0 ∙
    (ap (λ (z : List _). cond (q y) (f y ∷ z) z) (filter_map f p q ys h.1) ∙
    elim (q y) as (λ b. cond b (f y ∷ map f (filter q ys)) (map f (filter q ys)) ≡ map f
    (cond b (y ∷ filter q ys) (filter q ys))) [
      | true ↦ refl
      | false ↦ refl
    ])

-- Two functions that agree at each item.
pub map_same : {X Y : Type 0} (f g : X → Y) (xs : List X) → Each (λ x. f x ≡ g x) xs → map f xs ≡ map g xs
map_same f g [] h = refl
map_same f g (x ∷ xs) h = λ i. h.0 i ∷ map_same f g xs h.1 i

pub map-map : {X Y Z : Type 0} (f : X → Y) (g : Y → Z) (xs : List X) → map g (map f xs) ≡ map (λ x. g (f x)) xs
map-map f g [] = refl
map-map f g (x ∷ xs) = ap (λ (z : List _). g (f x) ∷ z) (map-map f g xs)

pub Each-from : {X : Type 0} (P : X → Type 0) → ((x : X) → P x) → (xs : List X) → Each P xs
Each-from P h [] = tt
Each-from P h (x ∷ xs) = (h x, Each-from P h xs)

pub filter_same : {X : Type 0} (p q : X → Bool) (xs : List X) → Each (λ x. p x ≡ q x) xs → filter p xs ≡ filter q xs
filter_same p q [] h = refl
filter_same p q (x ∷ xs) h = λ i. cond (h.0 i) (x ∷ filter_same p q xs h.1 i) (filter_same p q xs h.1 i)

pub Each-both : {X : Type 0} (P Q R : X → Type 0) → ((x : X) → P x → Q x → R x) → (xs : List X) → Each P xs →
    Each Q xs → Each R xs
Each-both P Q R w [] h k = tt
Each-both P Q R w (x ∷ xs) h k = (w x h.0 k.0, Each-both P Q R w xs h.1 k.1)

-- P holds of each f y where Q holds of each y.
pub Each-mapped : {X Y : Type 0} (P : X → Type 0) (Q : Y → Type 0) (f : Y → X) → ((y : Y) → Q y → P (f y)) →
    (ys : List Y) → Each Q ys → Each P (map f ys)
Each-mapped P Q f h [] k = tt
Each-mapped P Q f h (y ∷ ys) k = (h y k.0, Each-mapped P Q f h ys k.1)

pub Each-reverse : {X : Type 0} (P : X → Type 0) (xs : List X) → Each P xs → Each P (reverse xs)
Each-reverse P [] h = tt
Each-reverse P (x ∷ xs) h =
    subst (Each P) (sym (reverse-append (x ∷ []) xs))
    (Each-append P (reverse xs) (x ∷ []) (Each-reverse P xs h.1) (h.0, tt))

pub all-from : {X : Type 0} (P : X → Type 0) (xs : List X) → Each P xs → All P xs
all-from P [] h = All-nil P
all-from P (x ∷ xs) h = All-cons P x xs h.0 (all-from P xs h.1)
