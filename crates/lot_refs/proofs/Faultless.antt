-- Layers whose parents have no fault have no circle of parents, so that each chain ends.
use Rattle.std.proofs.Common.{◌≡◌, ℕ, zero, suc, ◌+◌, ◌<◌, Bool, true, false, List, [], ◌∷◌, ◌++◌, length, refl, ap, sym, ◌∙◌, subst, arith, Option, Some, None, eqb}
use mathlib.Core.Logic.{inl, inr}
use Rattle.std.specs.List.{list_any}
use Rattle.std.specs.Prelude.{◌&&◌, is_some, is_none, slice_get}
use Rattle.std.proofs.lemmas.Bool.{cases_lt}
use Rattle.std.proofs.lemmas.List.{get_or_past}
use Rattle.lot_types.specs.declared.comp.Comp.{Comp}
use Rattle.lot_types.specs.declared.doc.Doc.{Doc}
use Rattle.lot_types.specs.declared.layer.Layer.{Layer}
use Rattle.lot_refs.specs.declared.ref_fault.RefFault.{RefFault}
use Rattle.lot_refs.specs.Links.{after, comes_back}
use Rattle.lot_refs.specs.Linked.{IsValid, layers_in, layers_of}
use Rattle.lot_refs.specs.Parents.{parents, parent_of, BeginsChain}
use Rattle.lot_refs.specs.RefFaults.{when, layer_faults, faults_from, comp_faults, comp_faults_from}
use Rattle.lot_refs.proofs.Chains.{NoCircle, ends, ancestors_of_last, ancestors_of_next}
use Rattle.lot_refs.proofs.Named.{length_parents, parent_within}

empty_parts : {X : Type 0} (xs ys : List X) → xs ++ ys ≡ [] → (xs ≡ []) × (ys ≡ [])
empty_parts [] ys h = (refl, h)
empty_parts (x ∷ xs) ys h = absurd (cc)

none_of_two : (a b : Bool) (f g : RefFault) → when a f ++ when b g ≡ [] → b ≡ false
none_of_two true b f g e = absurd (cc)
none_of_two false true f g e = absurd (cc)
none_of_two false false f g e = refl

-- ---- the layers of a composition

free_at : (c : ℕ) (layers : List Layer) (l : ℕ) (x : Layer) → layer_faults c layers l x ≡ []
    → comes_back (parents layers) l ≡ false
free_at c layers l x h =
    none_of_two (is_some x.parent && is_none (parent_of layers l)) (comes_back (parents layers) l) _ _ h

free_from : (c : ℕ) (layers : List Layer) (l : ℕ) (xs : List Layer) → faults_from c layers l xs ≡ []
    → (j : ℕ) → j < length xs → comes_back (parents layers) (l + j) ≡ false
free_from c layers l [] h j less = absurd (omega (arith, less))
free_from c layers l (x ∷ xs) h zero less =
    let k = empty_parts (layer_faults c layers l x) (faults_from c layers (l + 1) xs) h in
    subst (λ (n : ℕ). comes_back (parents layers) n ≡ false) (omega arith) (free_at c layers l x k.0)
free_from c layers l (x ∷ xs) h (suc j) less =
    let k = empty_parts (layer_faults c layers l x) (faults_from c layers (l + 1) xs) h in
    subst (λ (n : ℕ). comes_back (parents layers) n ≡ false) (omega arith)
    (free_from c layers (l + 1) xs k.1 j (omega (arith, less)))

-- Past the last layer nothing comes back.
no_circle : (c : ℕ) (layers : List Layer) → comp_faults c layers ≡ [] → NoCircle (parents layers)
no_circle c layers h l =
    elim (cases_lt l (length layers)) [
      | inl less ↦
          subst (λ (n : ℕ). comes_back (parents layers) n ≡ false) (omega arith) (free_from c layers 0 layers h l less)
      | inr more ↦
          let past = get_or_past (parents layers) l None (omega (arith, length_parents layers, more)) in
          ap (λ (xs : List ℕ). list_any (eqb l) xs) (ancestors_of_last (parents layers) l past)
    ]

pub a_chain_ends : (c : ℕ) (layers : List Layer) → comp_faults c layers ≡ []
    → (l : ℕ) → after (parents layers) (suc (length layers)) (Some l) ≡ None
a_chain_ends c layers h l =
    ap (λ (n : ℕ). after (parents layers) (suc n) (Some l)) (sym (length_parents layers))
    ∙ ends (parents layers) (Some l) (no_circle c layers h)

begins : (c : ℕ) (layers : List Layer) (l : ℕ) (o : Option ℕ) → comp_faults c layers ≡ [] → parent_of layers l ≡ o
    → BeginsChain (parents layers) l o
begins c layers l None h is = ancestors_of_last (parents layers) l is
begins c layers l (Some k) h is =
    (parent_within layers l k is, ancestors_of_next (parents layers) l k (no_circle c layers h) is)

-- ---- compositions

faultless_comp : (comps : List Comp) (c i : ℕ) → comp_faults_from c comps ≡ [] → i < length comps
    → comp_faults (c + i) (layers_in (slice_get comps i)) ≡ []
faultless_comp [] c i h less = absurd (omega (arith, less))
faultless_comp (comp ∷ comps) c zero h less =
    let k = empty_parts (comp_faults c comp.layers) (comp_faults_from (c + 1) comps) h in
    subst (λ (n : ℕ). comp_faults n comp.layers ≡ []) (omega arith) k.0
faultless_comp (comp ∷ comps) c (suc i) h less =
    let k = empty_parts (comp_faults c comp.layers) (comp_faults_from (c + 1) comps) h in
    subst (λ (n : ℕ). comp_faults n (layers_in (slice_get comps i)) ≡ []) (omega arith)
    (faultless_comp comps (c + 1) i k.1 (omega (arith, less)))

-- The parent of a layer of a valid document begins its chain.
pub begins_chain : (d : Doc) (c l : ℕ) (o : Option ℕ) → IsValid d → c < length d.comps
    → parent_of (layers_of d c) l ≡ o → BeginsChain (parents (layers_of d c)) l o
begins_chain d c l o valid less is =
    begins (0 + c) (layers_of d c) l o (faultless_comp d.comps 0 c valid.parents_hold less) is
