-- The parents of the layers of a composition. A layer names its parent by a number, after the Lottie Specification 1.0,
-- "Layers"; that the first of several layers of one number counts is this project's own.
use Rattle.std.specs.Prelude.{◌≡◌, ℕ, ℤ, ◌+◌, ◌<◌, length, Bool, false, cond, List, [], ◌∷◌, map, slice_index_or, Option, Some, None}
use Rattle.std.specs.Option.{option_and_then}
use Rattle.std.specs.Ordering.{int_eq}
use Rattle.lot_types.specs.declared.layer.Layer.{Layer}
use Rattle.lot_refs.specs.Links.{Links, ancestors}

-- Whether the number of a layer, if it has one, is this number.
abbrev pub is_numbered : Option ℤ → ℤ → Bool
is_numbered None number = false
is_numbered (Some ind) number = int_eq ind number

-- The first of these layers, counted from l on, that has this number.
abbrev pub find_from : ℕ → List Layer → ℤ → Option ℕ
find_from l [] number = None
find_from l (x ∷ xs) number = cond (is_numbered x.ind number) (Some l) (find_from (l + 1) xs number)

abbrev pub find_layer : List Layer → ℤ → Option ℕ
find_layer layers number = find_from 0 layers number

-- The layer that a number names, if there is a number.
abbrev pub named : List Layer → Option ℤ → Option ℕ
named layers number = option_and_then (find_layer layers) number

-- Where the parents lead: the link of a layer leads to its parent.
abbrev pub parents : List Layer → Links
parents layers = map (λ x. named layers x.parent) layers

-- The parent of layer l.
abbrev pub parent_of : List Layer → ℕ → Option ℕ
parent_of layers l = slice_index_or (parents layers) l None

-- The layers that the chain of parents from layer l leads to, its parent first.
abbrev pub ancestors_of : List Layer → ℕ → List ℕ
ancestors_of layers l = ancestors (parents layers) l

-- A place begins the chain from l, and the rest is the chain from that place. Without it the chain from l is empty.
abbrev pub BeginsChain : Links → ℕ → Option ℕ → Type 0
BeginsChain links l None = ancestors links l ≡ []
BeginsChain links l (Some k) = (k < length links) × (ancestors links l ≡ k ∷ ancestors links k)
