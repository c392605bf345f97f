-- The layers that numbers name.
use Rattle.std.proofs.Common.{◌≡◌, ℕ, ℤ, zero, suc, ◌+◌, ◌<◌, cond, Bool, true, false, List, [], ◌∷◌, map, length, get_or, refl, arith, Option, Some, None}
use Rattle.std.specs.List.{All}
use Rattle.std.specs.Option.{option_and_then, IfSome}
use Rattle.std.proofs.lemmas.List.{length-map}
use Rattle.std.proofs.lemmas.List.Elements.{All-nil, All-cons}
use Rattle.std.proofs.lemmas.Option.{none-some, same_Some}
use Rattle.lot_types.specs.declared.layer.Layer.{Layer}
use Rattle.lot_refs.specs.Links.{Links, next, trail}
use Rattle.lot_refs.specs.Parents.{is_numbered, find_from, find_layer, named, parents, parent_of, ancestors_of}

pub named_same : (layers : List Layer) (f : ℤ → Option ℕ) (number : Option ℤ)
    → ((n : ℤ) → f n ≡ find_layer layers n) → option_and_then f number ≡ named layers number
named_same layers f None h = refl
named_same layers f (Some n) h = h n

pub length_parents : (layers : List Layer) → length (parents layers) ≡ length layers
length_parents layers = length-map layers (λ x. named layers x.parent)

-- ---- links lead to layers

within_by : (l k n : ℕ) (b : Bool) (o : Option ℕ) → cond b (Some l) o ≡ Some k → (o ≡ Some k → k < l + 1 + n)
    → k < l + suc n
within_by l k n true o h f = omega (arith, same_Some l k h)
within_by l k n false o h f = omega (arith, f h)

within_from : (l : ℕ) (xs : List Layer) (number : ℤ) (k : ℕ) → find_from l xs number ≡ Some k → k < l + length xs
within_from l [] number k h = absurd (none-some k h)
within_from l (x ∷ xs) number k h =
    within_by l k (length xs) (is_numbered x.ind number) (find_from (l + 1) xs number) h
    (within_from (l + 1) xs number k)

within_named : (layers : List Layer) (number : Option ℤ) (k : ℕ) → named layers number ≡ Some k → k < length layers
within_named layers None k h = absurd (none-some k h)
within_named layers (Some n) k h = omega (arith, within_from 0 layers n k h)

within_parents : (layers xs : List Layer) (l k : ℕ)
    → get_or (map (λ x. named layers x.parent) xs) l None ≡ Some k → k < length layers
within_parents layers [] l k h = absurd (none-some k h)
within_parents layers (x ∷ xs) zero k h = within_named layers x.parent k h
within_parents layers (x ∷ xs) (suc l) k h = within_parents layers xs l k h

pub parent_within : (layers : List Layer) (l k : ℕ) → parent_of layers l ≡ Some k → k < length (parents layers)
parent_within layers l k h = omega (arith, within_parents layers layers l k h, length_parents layers)

if_some : {X : Type 0} (P : X → Type 0) (o : Option X) → ((x : X) → o ≡ Some x → P x) → IfSome o P
if_some P None h = tt
if_some P (Some x) h = h x refl

trail_within : (links : Links) (m n : ℕ) (at : Option ℕ) → ((l k : ℕ) → get_or links l None ≡ Some k → k < m) → IfSome at (λ k. k < m)
    → All (λ k. k < m) (trail links n at)
trail_within links m zero at leads h = All-nil (λ k. k < m)
trail_within links m (suc n) None leads h = All-nil (λ k. k < m)
trail_within links m (suc n) (Some l) leads h =
    All-cons (λ k. k < m) l (trail links n (next links (Some l))) h
    (trail_within links m n (next links (Some l)) leads (if_some (λ k. k < m) (next links (Some l)) (leads l)))

-- All that the chain of parents leads to is a layer of the composition.
pub ancestors_within : (layers : List Layer) (l : ℕ) → All (λ k. k < length layers) (ancestors_of layers l)
ancestors_within layers l =
    trail_within (parents layers) (length layers) (length (parents layers)) (next (parents layers) (Some l))
    (within_parents layers layers) (if_some (λ k. k < length layers) (next (parents layers) (Some l)) (within_parents layers layers l))
