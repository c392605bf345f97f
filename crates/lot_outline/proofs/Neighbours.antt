-- The segments between neighbouring vertices, one after the other.
use Rattle.std.proofs.Common.{◌≡◌, ◌∙◌, ℕ, ◌+◌, ◌-◌, ◌<◌, ◌==◌, List, [], ◌∷◌, ◌++◌, map, ap, sym, if◌then◌else◌, arith}
use Rattle.std.specs.List.{range_with_len}
use Rattle.std.proofs.lemmas.List.FromFn.{map-range_with_len_more}
use Rattle.lot_types.specs.declared.seg.Seg.{Seg}
use Rattle.lot_outline.specs.declared.polystar.Polystar.{Polystar}
use Rattle.lot_outline.specs.declared.polystar.Vertex.{Vertex}
use Rattle.lot_outline.specs.Polystar.{vertex, seg_from, segment_between}

next_is : (j m : ℕ) → 0 < j → j < m → (if j - 1 + 1 == m then 0 else j - 1 + 1) ≡ j
next_is j m some within = grind arith

last_is : (j m : ℕ) → 0 < j → j ≡ m → (if j - 1 + 1 == m then 0 else j - 1 + 1) ≡ 0
last_is j m some end = grind arith

-- With the segment to vertex k, which is the next one after j - 1.
one_more : (s : Polystar) (made : List Seg) (from to : Vertex) (seg : Seg) (j k : ℕ) → 0 < j
    → (if j - 1 + 1 == s.vertices then 0 else j - 1 + 1) ≡ k
    → from ≡ vertex s (j - 1) → to ≡ vertex s k → seg ≡ segment_between from to
    → made ≡ map (seg_from s) (range_with_len 0 (j - 1))
    → made ++ seg ∷ [] ≡ map (seg_from s) (range_with_len 0 j)
one_more s made from to seg j k some next from_is to_is seg_is made_is =
    let here : j - 1 + 1 ≡ j = omega arith in
    let is : seg ≡ seg_from s (j - 1) =
    seg_is
    ∙ ap (λ (v : Vertex). segment_between v to) from_is
    ∙ ap (λ (v : Vertex). segment_between (vertex s (j - 1)) v) (to_is ∙ ap (vertex s) (sym next)) in
    ap (λ (xs : List Seg). xs ++ seg ∷ []) made_is
    ∙ ap (λ (x : Seg). map (seg_from s) (range_with_len 0 (j - 1)) ++ x ∷ []) is
    ∙ sym (map-range_with_len_more (seg_from s) 0 (j - 1) (j - 1) (omega arith))
    ∙ ap (λ (n : ℕ). map (seg_from s) (range_with_len 0 n)) here

pub to_next : (s : Polystar) (made : List Seg) (from to : Vertex) (seg : Seg) (j : ℕ) → 0 < j → j < s.vertices
    → from ≡ vertex s (j - 1) → to ≡ vertex s j → seg ≡ segment_between from to
    → made ≡ map (seg_from s) (range_with_len 0 (j - 1))
    → made ++ seg ∷ [] ≡ map (seg_from s) (range_with_len 0 j)
to_next s made from to seg j some within = one_more s made from to seg j j some (next_is j s.vertices some within)

pub to_first : (s : Polystar) (made : List Seg) (from first : Vertex) (seg : Seg) (j : ℕ) → 0 < j → j ≡ s.vertices
    → from ≡ vertex s (j - 1) → first ≡ vertex s 0 → seg ≡ segment_between from first
    → made ≡ map (seg_from s) (range_with_len 0 (j - 1))
    → made ++ seg ∷ [] ≡ map (seg_from s) (range_with_len 0 s.vertices)
to_first s made from first seg j some end from_is first_is seg_is made_is =
    one_more s made from first seg j 0 some (last_is j s.vertices some end) from_is first_is seg_is made_is
    ∙ ap (λ (n : ℕ). map (seg_from s) (range_with_len 0 n)) end
