-- The full matrix of a layer: its own, and then that of its parent, after the Lottie Specification 1.0, "Layers". The
-- product rounds, so that its order matters.
use Rattle.std.specs.Prelude.{◌≡◌, ◌<◌, ℕ, ℤ, List, [], ◌∷◌, length, Option, Some, None, slice_get, slice_index_or, option_and_then}
use Rattle.lot_group.specs.Product.{then_both}
use Rattle.lot_prop.specs.Transform.{own_matrix}
use Rattle.lot_refs.specs.Linked.{layers_of}
use Rattle.lot_refs.specs.Parents.{ancestors_of}
use Rattle.lot_types.specs.declared.doc.Doc.{Doc}
use Rattle.lot_types.specs.declared.layer.Layer.{Layer}
use Rattle.lot_types.specs.declared.matrix.Matrix.{Matrix}

-- Layer l of composition c.
abbrev pub layer_at : Doc → ℕ → ℕ → Option Layer
layer_at d c l = slice_get (layers_of d c) l

-- Its own matrix at a time.
unfoldable pub own_at : Doc → ℕ → ℤ → ℕ → Option Matrix
own_at d c t l = option_and_then (λ layer. own_matrix d layer.ks t) (layer_at d c l)

-- The matrix of layer l, and then the product of the layers after it on a chain.
abbrev pub chain_product : Doc → ℕ → ℤ → ℕ → List ℕ → Option Matrix
chain_product d c t l [] = own_at d c t l
chain_product d c t l (k ∷ ks) = then_both (own_at d c t l) (chain_product d c t k ks)

-- The full matrix of layer l of composition c at a time: along its chain of parents.
abbrev pub full_matrix : Doc → ℕ → ℕ → ℤ → Option Matrix
full_matrix d c l t = chain_product d c t l (ancestors_of (layers_of d c) l)

-- The same by the parent: its own without one, else its own and then the full matrix of the parent.
abbrev pub full_by_parent : Doc → ℕ → ℕ → ℤ → Option ℕ → Option Matrix
full_by_parent d c l t None = own_at d c t l
full_by_parent d c l t (Some k) = then_both (own_at d c t l) (full_matrix d c k t)

-- The full matrices of all layers of composition c at a time.
pub record AreFull (d : Doc) (c : ℕ) (t : ℤ) (ms : List Matrix) : Type 0 where
  pub count : length ms ≡ length (layers_of d c)
  pub full : (l : ℕ) (other : Matrix) → l < length ms → full_matrix d c l t ≡ Some (slice_index_or ms l other)
