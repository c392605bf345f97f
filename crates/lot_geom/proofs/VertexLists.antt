-- The vertices of a path, read by their index.
use Rattle.std.proofs.Common.{◌≡◌, ◌∙◌, ℕ, zero, suc, ◌+◌, ◌-◌, ◌<◌, true, false, List, [], ◌∷◌, ◌++◌, drop, length, get_or, ap, sym, refl, arith, append_assoc, append-nil}
use Rattle.std.proofs.lemmas.List.{drop_all}
use Rattle.lot_types.specs.declared.point.Point.{Point}
use Rattle.lot_types.specs.declared.seg.Seg.{Seg}
use Rattle.lot_types.specs.Curve.{Curve, AreVertices}
use Rattle.lot_geom.specs.Offset.{no_offset}
use Rattle.lot_geom.specs.Path.{Vertex, vertices, vertices_of, vertex_at, curves, curve_between, segs_of}

length_of_vertices : (v i o : List Point) → length i ≡ length v → length o ≡ length v → length (vertices v i o) ≡ length v
length_of_vertices [] i o p q = refl
length_of_vertices (v ∷ vs) [] o p q = absurd (omega (arith, p))
length_of_vertices (v ∷ vs) (i ∷ is) [] p q = absurd (omega (arith, q))
length_of_vertices (v ∷ vs) (i ∷ is) (o ∷ os) p q =
    ap suc (length_of_vertices vs is os (omega (arith, p)) (omega (arith, q)))

drop_vertices : (v i o : List Point) (k : ℕ) → k < length v → length i ≡ length v → length o ≡ length v
    → drop k (vertices v i o)
    ≡ record { at = get_or v k no_offset; into = get_or i k no_offset; out = get_or o k no_offset } ∷ drop (suc k) (vertices v i o)
drop_vertices [] i o k h p q = absurd (omega (arith, h))
drop_vertices (v ∷ vs) [] o k h p q = absurd (omega (arith, p))
drop_vertices (v ∷ vs) (i ∷ is) [] k h p q = absurd (omega (arith, q))
drop_vertices (v ∷ vs) (i ∷ is) (o ∷ os) zero h p q = refl
drop_vertices (v ∷ vs) (i ∷ is) (o ∷ os) (suc k) h p q =
    drop_vertices vs is os k (omega (arith, h)) (omega (arith, p)) (omega (arith, q))

drop_at : (b : Curve) (k : ℕ) → AreVertices b.v b.i b.o → k < length b.v
    → drop k (vertices_of b) ≡ vertex_at b k ∷ drop (k + 1) (vertices_of b)
drop_at b k are_vertices h =
    let next : suc k ≡ k + 1 = omega arith in
    drop_vertices b.v b.i b.o k h are_vertices.into are_vertices.out ∙ ap (λ (n : ℕ). vertex_at b k ∷ drop n (vertices_of b)) next

-- The curves to the vertices before `to` are made, whatever follows the last vertex.
abbrev pub AreMade : Curve → List Seg → ℕ → Type 0
AreMade b made to = (tail : List Vertex)
    → made ++ curves (drop (to - 1) (vertices_of b)) (drop to (vertices_of b) ++ tail)
    ≡ curves (vertices_of b) (drop 1 (vertices_of b) ++ tail)

pub none_made : (b : Curve) → AreMade b [] 1
none_made b tail = refl

pub one_more : (b : Curve) (made : List Seg) (to : ℕ) (seg : Seg) → AreVertices b.v b.i b.o → 0 < to → to < length b.v
    → seg ≡ curve_between (vertex_at b (to - 1)) (vertex_at b to) → AreMade b made to → AreMade b (made ++ seg ∷ []) (to + 1)
one_more b made to seg are_vertices some within is h tail =
    let here : to - 1 + 1 ≡ to = omega arith in
    let next : to + 1 - 1 ≡ to = omega arith in
    let from =
    drop_at b (to - 1) are_vertices (omega (arith, within))
    ∙ ap (λ (n : ℕ). vertex_at b (to - 1) ∷ drop n (vertices_of b)) here in
    append_assoc made (seg ∷ []) (curves (drop (to + 1 - 1) (vertices_of b)) (drop (to + 1) (vertices_of b) ++ tail))
    ∙ ap (λ (n : ℕ). made ++ seg ∷ curves (drop n (vertices_of b)) (drop (to + 1) (vertices_of b) ++ tail)) next
    ∙ ap (λ (s : Seg). made ++ s ∷ curves (drop to (vertices_of b)) (drop (to + 1) (vertices_of b) ++ tail)) is
    ∙ ap (λ (tos : List Vertex). made ++ curves (vertex_at b (to - 1) ∷ drop to (vertices_of b)) (tos ++ tail))
    (sym (drop_at b to are_vertices within))
    ∙ ap (λ (froms : List Vertex). made ++ curves froms (drop to (vertices_of b) ++ tail)) (sym from)
    ∙ h tail

-- What is made when each vertex but the first has been passed.
made_at_end : (b : Curve) (made : List Seg) (n : ℕ) (tail : List Vertex)
    → AreVertices b.v b.i b.o → 0 < n → n ≡ length b.v → AreMade b made n
    → made ++ curves (vertex_at b (n - 1) ∷ []) tail ≡ curves (vertices_of b) (drop 1 (vertices_of b) ++ tail)
made_at_end b made n tail are_vertices some is h =
    let none = drop_all n (vertices_of b) (omega (arith, length_of_vertices b.v b.i b.o are_vertices.into are_vertices.out, is)) in
    let here : n - 1 + 1 ≡ n = omega arith in
    let last =
    drop_at b (n - 1) are_vertices (omega (arith, is))
    ∙ ap (λ (k : ℕ). vertex_at b (n - 1) ∷ drop k (vertices_of b)) here
    ∙ ap (λ (xs : List Vertex). vertex_at b (n - 1) ∷ xs) none in
    ap (λ (froms : List Vertex). made ++ curves froms tail) (sym last)
    ∙ ap (λ (tos : List Vertex). made ++ curves (drop (n - 1) (vertices_of b)) (tos ++ tail)) (sym none)
    ∙ h tail

segs_open : (xs : List Vertex) → 0 < length xs → curves xs (drop 1 xs ++ []) ≡ segs_of false xs
segs_open [] h = absurd (omega (arith, h))
segs_open (x ∷ xs) h = ap (curves (x ∷ xs)) (append-nil xs)

segs_closed : (xs : List Vertex) (first : Vertex) (more : List Vertex) → xs ≡ first ∷ more
    → curves xs (drop 1 xs ++ first ∷ []) ≡ segs_of true xs
segs_closed [] first more e = absurd (cc)
segs_closed (x ∷ xs) first more e = ap (λ (z : Vertex). curves (x ∷ xs) (xs ++ z ∷ [])) (cc)

pub left_open : (b : Curve) (made : List Seg) (n : ℕ) → AreVertices b.v b.i b.o → 0 < n → n ≡ length b.v → AreMade b made n
    → made ≡ segs_of false (vertices_of b)
left_open b made n are_vertices some is h =
    sym (append-nil made)
    ∙ made_at_end b made n [] are_vertices some is h
    ∙ segs_open (vertices_of b) (omega (arith, length_of_vertices b.v b.i b.o are_vertices.into are_vertices.out, is))

pub closes : (b : Curve) (made : List Seg) (n : ℕ) (seg : Seg) → AreVertices b.v b.i b.o → 0 < n → n ≡ length b.v
    → seg ≡ curve_between (vertex_at b (n - 1)) (vertex_at b 0) → AreMade b made n
    → made ++ seg ∷ [] ≡ segs_of true (vertices_of b)
closes b made n seg are_vertices some is seg_is h =
    ap (λ (s : Seg). made ++ s ∷ []) seg_is
    ∙ made_at_end b made n (vertex_at b 0 ∷ []) are_vertices some is h
    ∙ segs_closed (vertices_of b) (vertex_at b 0) (drop 1 (vertices_of b)) (drop_at b 0 are_vertices (omega (arith, some, is)))
