-- The layers that are drawn are layers of the composition.
use Rattle.std.proofs.Common.{ℕ, zero, suc, ◌+◌, ◌<◌, ◌≤◌, Bool, true, false, List, [], ◌∷◌, length, if◌then◌else◌, arith}
use Rattle.std.specs.Prelude.{slice_get}
use Rattle.std.specs.List.{All}
use Rattle.std.proofs.lemmas.List.Elements.{All-nil, All-cons, All-head, All-tail, All-weaker}
use Rattle.lot_types.specs.declared.comp.Comp.{Comp}
use Rattle.lot_types.specs.declared.doc.Doc.{Doc}
use Rattle.lot_types.specs.declared.layer.Layer.{Layer}
use Rattle.lot_types.specs.WellFormed.{HasFewLayers}
use Rattle.lot_types.specs.Limits.{max_layers}
use Rattle.lot_refs.specs.Drawn.{is_drawn, drawn_from, drawn_layers}
use Rattle.lot_refs.specs.Linked.{IsValid, layers_in, layers_of}

within_from : (l : ℕ) (layers : List Layer) → All (λ k. k < l + length layers) (drawn_from l layers)
within_from l [] = All-nil (λ k. k < l + 0)
within_from l (x ∷ xs) = one_more (is_drawn x) (rest (drawn_from (l + 1) xs) (within_from (l + 1) xs))
  where
    rest : (ks : List ℕ) → All (λ k. k < l + 1 + length xs) ks → All (λ k. k < l + length (x ∷ xs)) ks
    rest ks h = All-weaker (λ k. k < l + 1 + length xs) (λ k. k < l + length (x ∷ xs)) (λ k lt. omega (arith, lt)) ks h

    one_more : (b : Bool) → All (λ k. k < l + length (x ∷ xs)) (drawn_from (l + 1) xs)
        → All (λ k. k < l + length (x ∷ xs)) (if b then l ∷ drawn_from (l + 1) xs else drawn_from (l + 1) xs)
    one_more true h = All-cons (λ k. k < l + length (x ∷ xs)) l (drawn_from (l + 1) xs) (omega arith) h
    one_more false h = h

few_from : (l : ℕ) (layers : List Layer) → length (drawn_from l layers) ≤ length layers
few_from l [] = omega arith
few_from l (x ∷ xs) = one_more (is_drawn x) (few_from (l + 1) xs)
  where
    one_more : (b : Bool) → length (drawn_from (l + 1) xs) ≤ length xs
        → length (if b then l ∷ drawn_from (l + 1) xs else drawn_from (l + 1) xs) ≤ length (x ∷ xs)
    one_more true h = omega (arith, h)
    one_more false h = omega (arith, h)

few_layers : (comps : List Comp) (c : ℕ) → All HasFewLayers comps → length (layers_in (slice_get comps c)) ≤ max_layers
few_layers [] c h = omega arith
few_layers (comp ∷ comps) zero h = All-head HasFewLayers comp comps h
few_layers (comp ∷ comps) (suc c) h = few_layers comps c (All-tail HasFewLayers comp comps h)

pub drawn_within : (layers : List Layer) → All (λ k. k < length layers) (drawn_layers layers)
drawn_within layers =
    All-weaker (λ k. k < 0 + length layers) (λ k. k < length layers) (λ k lt. omega (arith, lt)) (drawn_layers layers) (within_from 0 layers)

pub drawn_few : (d : Doc) (c : ℕ) → IsValid d → length (drawn_layers (layers_of d c)) ≤ max_layers
drawn_few d c valid = omega (arith, few_from 0 (layers_of d c), few_layers d.comps c valid.few_layers)
