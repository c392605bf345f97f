-- How two places are related.
use Rattle.std.proofs.Common.{◌≡◌, ℕ, ◌<◌, List, [], ◌∷◌, refl, ap, ◌∙◌, Bool, true, false, arith}
use Rattle.std.proofs.lemmas.Bool.{lt-ltb, le-ltb, eq-eqb, ne_eqb, and_left, or_from, or_left}
use Rattle.std.specs.Prelude.{◌&&◌, ◌||◌, ◌==◌}
use Rattle.lot_group.specs.Live.{covers, earlier, holds}

-- The first index is below n.
abbrev pub Below : ℕ → List ℕ → Type 0
Below n [] = ⊥
Below n (i ∷ q) = i < n

-- The first index is n.
abbrev pub At : ℕ → List ℕ → Type 0
At n [] = ⊥
At n (i ∷ q) = i ≡ n

abbrev pub NonEmpty : List ℕ → Type 0
NonEmpty [] = ⊥
NonEmpty (i ∷ q) = Unit {0}

-- A style below n does not paint what is at n.
pub covers-later : (n : ℕ) (s q : List ℕ) → Below n s → At n q → covers s q ≡ false
unfolding covers
covers-later n [] q b a = absurd b
covers-later n (k ∷ s) [] b a = absurd a
covers-later n (k ∷ []) (i ∷ q) b a = le-ltb i k (omega arith)
covers-later n (k ∷ (l ∷ s)) (i ∷ q) b a = and_left _ _ (ne_eqb i k (λ e. omega arith))

pub earlier-later : (n : ℕ) (s q : List ℕ) → Below n s → At n q → earlier s q ≡ false
unfolding earlier
earlier-later n [] q b a = absurd b
earlier-later n (k ∷ s) [] b a = absurd a
earlier-later n (k ∷ []) (i ∷ q) b a = refl
earlier-later n (k ∷ (l ∷ s)) (i ∷ q) b a =
    or_from _ _ (le-ltb i k (omega arith)) (and_left _ _ (ne_eqb i k (λ e. omega arith)))

-- A style in the group at n does not paint what is below n. All of that comes before its list.
pub covers-inner : (n : ℕ) (s q : List ℕ) → NonEmpty s → Below n q → covers (n ∷ s) q ≡ false
unfolding covers
covers-inner n [] q s b = absurd s
covers-inner n (l ∷ s) [] t b = absurd b
covers-inner n (l ∷ s) (i ∷ q) t b = and_left _ _ (ne_eqb i n (λ e. omega arith))

pub earlier-inner : (n : ℕ) (s q : List ℕ) → NonEmpty s → Below n q → earlier (n ∷ s) q ≡ true
unfolding earlier
earlier-inner n [] q s b = absurd s
earlier-inner n (l ∷ s) [] t b = absurd b
earlier-inner n (l ∷ s) (i ∷ q) t b = or_left _ _ (lt-ltb i n b)

-- Within the group at n all is as in the list of the group.
pub covers-within : (n : ℕ) (s q : List ℕ) → NonEmpty s → covers (n ∷ s) (n ∷ q) ≡ covers s q
unfolding covers
covers-within n [] q t = absurd t
covers-within n (l ∷ s) q t = ap (λ (b : Bool). b && covers (l ∷ s) q) (eq-eqb n n refl)

pub earlier-within : (n : ℕ) (s q : List ℕ) → NonEmpty s → earlier (n ∷ s) (n ∷ q) ≡ earlier s q
unfolding earlier
earlier-within n [] q t = absurd t
earlier-within n (l ∷ s) q t =
    ap (λ (b : Bool). b || ((n == n) && earlier (l ∷ s) q)) (le-ltb n n (omega arith)) ∙
    ap (λ (b : Bool). b && earlier (l ∷ s) q) (eq-eqb n n refl)

-- A style of the list itself paints all that is below it.
pub covers-own : (n : ℕ) (q : List ℕ) → Below n q → covers (n ∷ []) q ≡ true
unfolding covers
covers-own n [] b = absurd b
covers-own n (i ∷ q) b = lt-ltb i n b

pub earlier-own : (n : ℕ) (q : List ℕ) → earlier (n ∷ []) q ≡ false
unfolding earlier
earlier-own n [] = refl
earlier-own n (i ∷ q) = refl

-- A group at n holds nothing below n.
pub holds-later : (n : ℕ) (g q : List ℕ) → At n g → Below n q → holds g q ≡ false
unfolding holds
holds-later n [] q a b = absurd a
holds-later n (k ∷ g) [] a b = absurd b
holds-later n (k ∷ g) (i ∷ q) a b = and_left _ _ (ne_eqb k i (λ e. omega arith))

-- A group below n holds nothing at n.
pub holds-earlier : (n : ℕ) (g q : List ℕ) → Below n g → holds g (n ∷ q) ≡ false
unfolding holds
holds-earlier n [] q b = absurd b
holds-earlier n (k ∷ g) q b = and_left _ _ (ne_eqb k n (λ e. omega arith))

pub holds-within : (n : ℕ) (g q : List ℕ) → holds (n ∷ g) (n ∷ q) ≡ holds g q
unfolding holds
holds-within n g q = ap (λ (b : Bool). b && holds g q) (eq-eqb n n refl)

pub holds-self : (n : ℕ) (q : List ℕ) → NonEmpty q → holds (n ∷ []) (n ∷ q) ≡ true
unfolding holds
holds-self n [] t = absurd t
holds-self n (i ∷ q) t = ap (λ (b : Bool). b && true) (eq-eqb n n refl)

pub holds-none : (g : List ℕ) → holds g [] ≡ false
unfolding holds
holds-none [] = refl
holds-none (k ∷ g) = refl
