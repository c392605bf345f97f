-- What it means that a place covers another, and the order of the trims of one leaf.
use Rattle.std.proofs.Common.{◌≡◌, ℕ, ◌<◌, List, [], ◌∷◌, ◌++◌, length, refl, true, arith, ◌⊎◌, inl, inr}
use Rattle.std.proofs.lemmas.Bool.{ltb-true, eqb-true, and_parts}
use Rattle.std.specs.Prelude.{◌==◌}
use Rattle.lot_group.specs.Live.{covers}

-- The place s is p, k, and q has p, i as a prefix for an i below k.
pub record Covers (s q : List ℕ) : Type 0 where
  pub list : List ℕ
  pub k : ℕ
  pub i : ℕ
  pub rest : List ℕ
  pub style : s ≡ list ++ k ∷ []
  pub leaf : q ≡ list ++ i ∷ rest
  pub below : i < k

pub Covers-from : (s q : List ℕ) → covers s q ≡ true → Covers s q
unfolding covers
Covers-from [] q h = absurd (cc)
Covers-from (k ∷ s) [] h = absurd (cc)
Covers-from (k ∷ []) (i ∷ q) h =
    record { list = []; k = k; i = i; rest = q; style = refl; leaf = refl; below = ltb-true i k h }
Covers-from (k ∷ (l ∷ s)) (i ∷ q) h =
    let b = and_parts (i == k) (covers (l ∷ s) q) h in
    let c = Covers-from (l ∷ s) q b.1 in
    let e = eqb-true i k b.0 in
    record {
      list = k ∷ c.list;
      k = c.k;
      i = c.i;
      rest = c.rest;
      style = λ j. k ∷ c.style j;
      leaf =
          λ j. e j ∷ c.leaf j;
      below = c.below;
    }

-- The order of places.
abbrev pub Precedes : List ℕ → List ℕ → Type 0
Precedes a [] = ⊥
Precedes [] (j ∷ b) = Unit {0}
Precedes (i ∷ a) (j ∷ b) = (i < j) ⊎ ((i ≡ j) × Precedes a b)

-- Of two trims that act on one leaf, the first in order of place is in the inner list, or earlier in the same list.
pub inner_first : (p p' : List ℕ) (j j' i i' : ℕ) (t t' : List ℕ) → p ++ i ∷ t ≡ p' ++ i' ∷ t' → i < j → i' < j' →
    Precedes (p ++ j ∷ []) (p' ++ j' ∷ []) → (length p' < length p) ⊎ ((p ≡ p') × (j < j'))
inner_first [] [] j j' i i' t t' e l l' (inl h) = inr (refl, h)
inner_first [] [] j j' i i' t t' e l l' (inr h) = absurd h.1
inner_first [] (m ∷ p') j j' i i' t t' e l l' (inl h) = let f : i ≡ m = cc in absurd (omega arith)
inner_first [] (m ∷ p') j j' i i' t t' e l l' (inr h) = let f : i ≡ m = cc in let g = h.0 in absurd (omega arith)
inner_first (m ∷ p) [] j j' i i' t t' e l l' h = inl (omega arith)
inner_first (m ∷ p) (m' ∷ p') j j' i i' t t' e l l' (inl h) = let f : m ≡ m' = cc in absurd (omega arith)
inner_first (m ∷ p) (m' ∷ p') j j' i i' t t' e l l' (inr h) =
    let f : p ++ i ∷ t ≡ p' ++ i' ∷ t' = cc in
    both m m' p p' j j' h.0 (inner_first p p' j j' i i' t t' f l l' h.1)
  where
    both : (m m' : ℕ) (p p' : List ℕ) (j j' : ℕ) → m ≡ m' → (length p' < length p) ⊎ ((p ≡ p') × (j < j')) →
        (length (m' ∷ p') < length (m ∷ p)) ⊎ (((m ∷ p) ≡ (m' ∷ p')) × (j < j'))
    both m m' p p' j j' e (inl h) = inl (omega arith)
    both m m' p p' j j' e (inr h) = inr ((λ k. e k ∷ h.0 k), h.1)
