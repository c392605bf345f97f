-- The table of full matrices while it is made.
use Rattle.std.proofs.Common.{◌≡◌, ℕ, ℤ, ◌<◌, List, [], ◌∷◌, length, map, Option, Some, None, refl, ap, sym, ◌∙◌, subst}
use Rattle.std.specs.Prelude.{slice_set, slice_index_or, IsSome}
use Rattle.std.proofs.lemmas.Bool.{cases_eq}
use Rattle.std.proofs.lemmas.List.{get_or-set_same, get_or-set_other, get_or-map, length-set, length-map}
use mathlib.Core.Logic.{inl, inr}
use Rattle.lot_comp.specs.Full.{own_at, chain_product, full_matrix, AreFull}
use Rattle.lot_comp.specs.FullTable.{IsFullIfMade, AreFullIfMade, IsMade, LeadsDown, IsClimbed, IsLeft}
use Rattle.lot_geom.specs.Matrix.{matrix_product}
use Rattle.lot_group.specs.Product.{then_both}
use Rattle.lot_refs.specs.Linked.{layers_of}
use Rattle.lot_refs.specs.Parents.{ancestors_of, parent_of}
use Rattle.lot_types.specs.declared.doc.Doc.{Doc}
use Rattle.lot_types.specs.declared.layer.Layer.{Layer}
use Rattle.lot_types.specs.declared.matrix.Matrix.{Matrix}

joined : (o : Option Matrix) (p : Option Matrix) (own m : Matrix) → o ≡ Some own → p ≡ Some m → then_both o p ≡ Some (matrix_product own m)
unfolding then_both
joined o p own m e f = λ i. then_both (e i) (f i)

-- The full matrix of a layer by that of its parent.
pub by_parent : (d : Doc) (c l k : ℕ) (t : ℤ) (own m r : Matrix)
    → ancestors_of (layers_of d c) l ≡ k ∷ ancestors_of (layers_of d c) k → own_at d c t l ≡ Some own → full_matrix d c k t ≡ Some m
    → r ≡ matrix_product own m → full_matrix d c l t ≡ Some r
by_parent d c l k t own m r chain is full e =
    ap (chain_product d c t l) chain ∙ joined (own_at d c t l) (full_matrix d c k t) own m is full ∙ ap (λ (z : Matrix). Some z) (sym e)

-- An entry that is found made is full.
pub full_at : (d : Doc) (c : ℕ) (t : ℤ) (made : List (Option Matrix)) (l : ℕ) (m : Matrix) → AreFullIfMade d c t made
    → slice_index_or made l None ≡ Some m → full_matrix d c l t ≡ Some m
full_at d c t made l m are is = subst (IsFullIfMade d c t l) is (are.full l)

-- One more entry is made.
one_full : (d : Doc) (c : ℕ) (t : ℤ) (made : List (Option Matrix)) (k : ℕ) (m : Matrix) → k < length made → full_matrix d c k t ≡ Some m
    → AreFullIfMade d c t made → (l : ℕ) → IsFullIfMade d c t l (slice_index_or (slice_set made k (Some m)) l None)
one_full d c t made k m less is are l =
    elim (cases_eq l k) [
      | inl e ↦ subst (IsFullIfMade d c t l) (sym (ap (λ (n : ℕ). slice_index_or (slice_set made k (Some m)) n None) e ∙ get_or-set_same made k (Some m) None less))
          (subst (λ (n : ℕ). full_matrix d c n t ≡ Some m) (sym e) is)
      | inr n ↦ subst (IsFullIfMade d c t l) (sym (get_or-set_other made k l (Some m) None n)) (are.full l)
    ]

pub stays_full : (d : Doc) (c : ℕ) (t : ℤ) (made : List (Option Matrix)) (k : ℕ) (m : Matrix) → k < length made → full_matrix d c k t ≡ Some m
    → AreFullIfMade d c t made → AreFullIfMade d c t (slice_set made k (Some m))
stays_full d c t made k m less is are = record {
  count = length-set made k (Some m) ∙ are.count;
  full = one_full d c t made k m less is are;
}

pub is_made : (made : List (Option Matrix)) (k : ℕ) (m : Matrix) → k < length made → IsMade (slice_set made k (Some m)) (Some k)
is_made made k m less = subst IsSome (sym (get_or-set_same made k (Some m) None less)) refl

pub stays_made : (made : List (Option Matrix)) (k : ℕ) (m : Matrix) → k < length made → (l : ℕ) → IsMade made (Some l)
    → IsMade (slice_set made k (Some m)) (Some l)
stays_made made k m less l is =
    elim (cases_eq l k) [
      | inl e ↦ subst (λ (n : ℕ). IsMade (slice_set made k (Some m)) (Some n)) (sym e) (is_made made k m less)
      | inr n ↦ subst IsSome (sym (get_or-set_other made k l (Some m) None n)) is
    ]

-- The layers below one that is made are left.
below : (layers : List Layer) (l k : ℕ) (js : List ℕ) → LeadsDown layers l k js → IsClimbed layers l (Some k) js
below layers l k [] e = ap (λ (n : ℕ). Some n) e
below layers l k (j ∷ js) h = h

pub next_left : (layers : List Layer) (made : List (Option Matrix)) (l k : ℕ) (above : Option ℕ) (js : List ℕ) (m : Matrix) → k < length made
    → IsLeft layers made l above (k ∷ js) → IsLeft layers (slice_set made k (Some m)) l (Some k) js
next_left layers made l k above js m less left = record {
  climbed = below layers l k js left.climbed.1;
  made_above = is_made made k m less;
}

pub parent_is_made : (layers : List Layer) (made : List (Option Matrix)) (l k : ℕ) (above : Option ℕ) (js : List ℕ) → IsLeft layers made l above (k ∷ js)
    → IsMade made (parent_of layers k)
parent_is_made layers made l k above js left = subst (IsMade made) (sym left.climbed.0) left.made_above

-- The layers that lead down to l, with one more on top.
pub down : (layers : List Layer) (l k : ℕ) (js : List ℕ) → IsClimbed layers l (Some k) js → LeadsDown layers l k js
down layers l k [] e = let same : k ≡ l = cc in same
down layers l k (j ∷ js) h = h

-- Every entry is made, and these are the matrices.
all_full : (d : Doc) (c : ℕ) (t : ℤ) (made : List (Option Matrix)) (ms : List Matrix) → AreFullIfMade d c t made → map Some ms ≡ made
    → (l : ℕ) (other : Matrix) → l < length ms → full_matrix d c l t ≡ Some (slice_index_or ms l other)
all_full d c t made ms are e l other less =
    full_at d c t made l (slice_index_or ms l other) are
    (ap (λ (xs : List (Option Matrix)). slice_index_or xs l None) (sym e) ∙ get_or-map Some ms l other None less)

pub all_are_full : (d : Doc) (c : ℕ) (t : ℤ) (made : List (Option Matrix)) (ms : List Matrix) → AreFullIfMade d c t made → map Some ms ≡ made
    → AreFull d c t ms
all_are_full d c t made ms are e = record {
  count = sym (length-map ms Some) ∙ ap length e ∙ are.count;
  full = all_full d c t made ms are e;
}
