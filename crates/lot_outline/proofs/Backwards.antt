-- Segments taken from the last to the first.
use Rattle.std.proofs.Common.{◌≡◌, ◌∙◌, ℕ, ◌+◌, ◌-◌, ◌<◌, List, [], ◌∷◌, ◌++◌, take, length, get_or, ap, sym, refl, arith, append_assoc}
use Rattle.std.proofs.lemmas.List.{take_more}
use Rattle.lot_types.specs.declared.point.Point.{Point}
use Rattle.lot_types.specs.declared.seg.Seg.{Seg}
use Rattle.lot_outline.specs.Reversed.{end_of, seg_back, segs_back}

pub end_of_more : (p : Point) (xs : List Seg) (seg : Seg) → end_of p (xs ++ seg ∷ []) ≡ seg.end
end_of_more p [] seg = refl
end_of_more p (x ∷ xs) seg = end_of_more x.end xs seg

back_of_more : (p : Point) (xs : List Seg) (seg : Seg)
    → segs_back p (xs ++ seg ∷ []) ≡ seg_back (end_of p xs) seg ∷ segs_back p xs
unfolding segs_back
back_of_more p [] seg = refl
back_of_more p (x ∷ xs) seg = ap (λ (ys : List Seg). ys ++ seg_back p x ∷ []) (back_of_more x.end xs seg)

pub one_back : (p : Point) (segs made : List Seg) (k : ℕ) (d seg back : Seg) → 0 < k → k - 1 < length segs
    → seg ≡ get_or segs (k - 1) d → back ≡ seg_back (end_of p (take (k - 1) segs)) seg
    → made ++ segs_back p (take k segs) ≡ segs_back p segs
    → (made ++ back ∷ []) ++ segs_back p (take (k - 1) segs) ≡ segs_back p segs
one_back p segs made k d seg back some within seg_is back_is h =
    let here : k - 1 + 1 ≡ k = omega arith in
    let split : take k segs ≡ take (k - 1) segs ++ seg ∷ [] =
    ap (λ (n : ℕ). take n segs) (sym here)
    ∙ take_more segs (k - 1) d within
    ∙ ap (λ (x : Seg). take (k - 1) segs ++ x ∷ []) (sym seg_is) in
    append_assoc made (back ∷ []) (segs_back p (take (k - 1) segs))
    ∙ ap (λ (x : Seg). made ++ x ∷ segs_back p (take (k - 1) segs)) back_is
    ∙ ap (λ (xs : List Seg). made ++ xs) (sym (back_of_more p (take (k - 1) segs) seg))
    ∙ ap (λ (xs : List Seg). made ++ segs_back p xs) (sym split)
    ∙ h

end_is : (p : Point) (first : Seg) (segs : List Seg) (d : Seg)
    → end_of p (first ∷ segs) ≡ (get_or (first ∷ segs) (length segs) d).end
end_is p first [] d = refl
end_is p first (x ∷ xs) d = end_is first.end x xs d

pub last_ends : (p : Point) (segs : List Seg) (last : Seg) → 0 < length segs → last ≡ get_or segs (length segs - 1) last
    → last.end ≡ end_of p segs
last_ends p [] last h is = absurd (omega (arith, h))
last_ends p (x ∷ xs) last h is =
    let here : length (x ∷ xs) - 1 ≡ length xs = omega arith in
    ap (λ (s : Seg). s.end) is
    ∙ ap (λ (n : ℕ). (get_or (x ∷ xs) n last).end) here
    ∙ sym (end_is p x xs last)
