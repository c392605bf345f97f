-- Names, each where it first comes, and the table of names that takes them in turn.
use Rattle.std.proofs.Common.{◌≡◌, ℕ, Bool, true, false, not, ◌||◌, ◌&&◌, List, [], ◌∷◌, ◌++◌, map, filter, refl, ap, sym, ◌∙◌, cond}
use Rattle.std.specs.List.{list_any}
use Rattle.std.specs.Str.{bytes_eq}
use Rattle.std.proofs.lemmas.Slice.Eq.{bytes_eq-Decides}
use Rattle.std.proofs.lemmas.List.Elements.{filter-append}
use Rattle.std.proofs.lemmas.Map.Views.{any-filter_same}
use Rattle.std.proofs.lemmas.List.{append-nil}
use Rattle.indexmap.specs.IndexMap.{insert_entry}
use Rattle.lot_read.specs.SlotNames.{Names, first_come, among}

-- The names and one more, which goes last where it is not there.
abbrev pub put : Names → List ℕ → Names
put names name = cond (among name names) names (names ++ name ∷ [])

abbrev others : List ℕ → Names → Names
others x names = filter (λ y. not (bytes_eq x y)) names

same_from : (x y : List ℕ) → bytes_eq x y ≡ true → x ≡ y
same_from x y h = (bytes_eq-Decides x y).0 h

pub eq_self : (x : List ℕ) → bytes_eq x x ≡ true
eq_self x = (bytes_eq-Decides x x).1 refl

pub equal_back : (x y : List ℕ) → bytes_eq x y ≡ true → bytes_eq y x ≡ true
equal_back x y h = (bytes_eq-Decides y x).1 (sym (same_from x y h))

differ_back_by : (x y : List ℕ) (b : Bool) → bytes_eq y x ≡ b → bytes_eq x y ≡ false → b ≡ false
differ_back_by x y false e h = refl
differ_back_by x y true e h = sym (eq_self x) ∙ ap (λ (z : List ℕ). bytes_eq x z) (sym (same_from y x e)) ∙ h

differ_back : (x y : List ℕ) → bytes_eq x y ≡ false → bytes_eq y x ≡ false
differ_back x y h = differ_back_by x y (bytes_eq y x) refl h

-- x is not among the others than x, and every other name is among them as before.
not_among_others : (x : List ℕ) (names : Names) → among x (others x names) ≡ false
not_among_others x names = any-filter_same (bytes_eq x) (λ y. not (bytes_eq x y)) false (λ y h. ap not h) names

among_others : (x n : List ℕ) (names : Names) → bytes_eq x n ≡ false → among n (others x names) ≡ among n names
among_others x n names h =
    any-filter_same (bytes_eq n) (λ y. not (bytes_eq x y)) true (λ y e. ap (λ (z : List ℕ). not (bytes_eq x z)) (sym (same_from n y e)) ∙ ap not h) names

-- One name more, and the others than x.
others_put_same : (x : List ℕ) (names : Names) (b : Bool) → others x (cond b names (names ++ x ∷ [])) ≡ others x names
others_put_same x names true = refl
others_put_same x names false =
    filter-append (λ y. not (bytes_eq x y)) names (x ∷ [])
    ∙ ap (λ (b : Bool). others x names ++ cond (not b) (x ∷ []) []) (eq_self x)
    ∙ append-nil (others x names)

others_put : (x n : List ℕ) (names : Names) (b : Bool) → bytes_eq x n ≡ false → others x (cond b names (names ++ n ∷ [])) ≡ cond b (others x names) (others x names ++ n ∷ [])
others_put x n names true h = refl
others_put x n names false h =
    filter-append (λ y. not (bytes_eq x y)) names (n ∷ []) ∙ ap (λ (b : Bool). others x names ++ cond (not b) (n ∷ []) []) h

front : (x n : List ℕ) (names : Names) (b : Bool) → x ∷ cond b names (names ++ n ∷ []) ≡ cond b (x ∷ names) ((x ∷ names) ++ n ∷ [])
front x n names true = refl
front x n names false = refl

step_by : (x n : List ℕ) (names : Names) (b : Bool) → bytes_eq n x ≡ b → x ∷ others x (put names n) ≡ cond (b || among n (others x names)) (x ∷ others x names) ((x ∷ others x names) ++ n ∷ [])
step_by x n names true e =
    let same : n ≡ x = same_from n x e in
    ap (λ (z : List ℕ). x ∷ others x (cond (among n names) names (names ++ z ∷ []))) same
    ∙ ap (λ (zs : Names). x ∷ zs) (others_put_same x names (among n names))
step_by x n names false e =
    let h = differ_back n x e in
    ap (λ (zs : Names). x ∷ zs) (others_put x n names (among n names) h)
    ∙ front x n (others x names) (among n names)
    ∙ ap (λ (b : Bool). cond b (x ∷ others x names) ((x ∷ others x names) ++ n ∷ [])) (sym (among_others x n names h))

pub first_come_more : (names : Names) (n : List ℕ) → first_come (names ++ n ∷ []) ≡ put (first_come names) n
first_come_more [] n = refl
first_come_more (x ∷ xs) n =
    ap (λ (zs : Names). x ∷ others x zs) (first_come_more xs n)
    ∙ step_by x n (first_come xs) (bytes_eq n x) refl

-- No name is among those after it.
abbrev pub Apart : Names → Type 0
Apart [] = Unit {0}
Apart (x ∷ xs) = (among x xs ≡ false) × Apart xs

none_kept_by : (p : List ℕ → Bool) (y : List ℕ) (b c : Bool) (ys kept : Names) → p y ≡ c → (c || list_any p ys) ≡ false → (list_any p ys ≡ false → list_any p kept ≡ false) → list_any p (cond b (y ∷ kept) kept) ≡ false
none_kept_by p y true false ys kept e h k = ap (λ (z : Bool). z || list_any p kept) e ∙ k h
none_kept_by p y true true ys kept e h k = absurd (cc)
none_kept_by p y false false ys kept e h k = k h
none_kept_by p y false true ys kept e h k = absurd (cc)

none_kept : (p q : List ℕ → Bool) (ys : Names) → list_any p ys ≡ false → list_any p (filter q ys) ≡ false
none_kept p q [] h = refl
none_kept p q (y ∷ ys) h = none_kept_by p y (q y) (p y) ys (filter q ys) refl h (none_kept p q ys)

apart_kept_by : (q : List ℕ → Bool) (y : List ℕ) (b : Bool) (ys : Names) → among y ys ≡ false → Apart (filter q ys) → Apart (cond b (y ∷ filter q ys) (filter q ys))
apart_kept_by q y true ys h k = (none_kept (bytes_eq y) q ys h, k)
apart_kept_by q y false ys h k = k

apart_kept : (q : List ℕ → Bool) (ys : Names) → Apart ys → Apart (filter q ys)
apart_kept q [] h = tt
apart_kept q (y ∷ ys) h = apart_kept_by q y (q y) ys h.0 (apart_kept q ys h.1)

pub first_come_apart : (names : Names) → Apart (first_come names)
first_come_apart [] = tt
first_come_apart (x ∷ xs) = (not_among_others x (first_come xs), apart_kept (λ y. not (bytes_eq x y)) (first_come xs) (first_come_apart xs))

-- Each name with a mark.
abbrev pub marked : {M : Type 0} → (List ℕ → M) → Names → List (List ℕ × M)
marked f names = map (λ z. (z, f z)) names

-- Marks that differ at n alone.
abbrev pub SameBut : {M : Type 0} → List ℕ → (f g : List ℕ → M) → Type 0
SameBut n f g = (z : List ℕ) → bytes_eq n z ≡ false → g z ≡ f z

split_false : (b c : Bool) → (b || c) ≡ false → (b ≡ false) × (c ≡ false)
split_false false c h = (refl, h)
split_false true c h = absurd (cc)

marked_same : {M : Type 0} (n : List ℕ) (f g : List ℕ → M) (names : Names) → SameBut n f g → among n names ≡ false → marked f names ≡ marked g names
marked_same n f g [] same h = refl
marked_same {M} n f g (y ∷ ys) same h =
    let k = split_false (bytes_eq n y) (among n ys) h in
    ap (λ (b : M). (y, b) ∷ marked f ys) (sym (same y k.0)) ∙ ap (λ (zs : List (List ℕ × M)). (y, g y) ∷ zs) (marked_same n f g ys same k.1)

-- A table that has each name with its mark, and takes one more.
insert_by : {M : Type 0} (f g : List ℕ → M) (n : List ℕ) (x : List ℕ) (xs : Names) (b : Bool) → bytes_eq n x ≡ b → SameBut n f g → among x xs ≡ false
    → insert_entry bytes_eq (marked f xs) n (g n) ≡ marked g (put xs n)
    → cond b ((x, g n) ∷ marked f xs) ((x, f x) ∷ insert_entry bytes_eq (marked f xs) n (g n)) ≡ marked g (cond (b || among n xs) (x ∷ xs) ((x ∷ xs) ++ n ∷ []))
insert_by {M} f g n x xs true e same free more =
    let is : n ≡ x = same_from n x e in
    ap (λ (z : List ℕ). (x, g z) ∷ marked f xs) is
    ∙ ap (λ (zs : List (List ℕ × M)). (x, g x) ∷ zs) (marked_same n f g xs same (ap (λ (z : List ℕ). among z xs) is ∙ free))
insert_by {M} f g n x xs false e same free more =
    ap (λ (b : M). (x, b) ∷ insert_entry bytes_eq (marked f xs) n (g n)) (sym (same x e))
    ∙ ap (λ (zs : List (List ℕ × M)). (x, g x) ∷ zs) more
    ∙ ap (λ (zs : Names). marked g zs) (front x n xs (among n xs))

pub insert_marked : {M : Type 0} (f g : List ℕ → M) (n : List ℕ) (names : Names) → SameBut n f g → Apart names → insert_entry bytes_eq (marked f names) n (g n) ≡ marked g (put names n)
insert_marked f g n [] same apart = refl
insert_marked f g n (x ∷ xs) same apart = insert_by f g n x xs (bytes_eq n x) refl same apart.0 (insert_marked f g n xs same apart.1)

-- The names whose mark passes a test.
kept_by : {M : Type 0} (f : List ℕ → M) (x : List ℕ) (b : Bool) (kept : List (List ℕ × M)) (names : Names) → kept ≡ marked f names
    → cond b ((x, f x) ∷ kept) kept ≡ marked f (cond b (x ∷ names) names)
kept_by {M} f x true kept names h = ap (λ (zs : List (List ℕ × M)). (x, f x) ∷ zs) h
kept_by f x false kept names h = h

pub marked_kept : {M : Type 0} (f : List ℕ → M) (test : M → Bool) (names : Names) → filter (λ e. test e.1) (marked f names) ≡ marked f (filter (λ n. test (f n)) names)
marked_kept f test [] = refl
marked_kept f test (x ∷ xs) =
    kept_by f x (test (f x)) (filter (λ e. test e.1) (marked f xs)) (filter (λ n. test (f n)) xs) (marked_kept f test xs)

-- A name is among the names that come first where it is among all.
among_by : (n x : List ℕ) (first names : Names) (b : Bool) → bytes_eq n x ≡ b → among n first ≡ among n names → (b || among n (others x first)) ≡ (b || among n names)
among_by n x first names true e h = refl
among_by n x first names false e h = among_others x n first (differ_back n x e) ∙ h

pub among_first_come : (n : List ℕ) (names : Names) → among n (first_come names) ≡ among n names
among_first_come n [] = refl
among_first_come n (x ∷ xs) = among_by n x (first_come xs) xs (bytes_eq n x) refl (among_first_come n xs)

-- A test of names keeps a name that passes it, and leaves out one that does not.
pub among_kept : (n : List ℕ) (q : List ℕ → Bool) (names : Names) → among n (filter q names) ≡ (q n && among n names)
among_kept n q names = any-filter_same (bytes_eq n) q (q n) (λ y e. ap q (sym (same_from n y e))) names
