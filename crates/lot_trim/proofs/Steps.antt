-- One more contour, outline or curve of a run, and the end of them.
use Rattle.std.proofs.Common.{◌≡◌, ◌∙◌, ℕ, ◌+◌, ◌<◌, ◌≤◌, List, [], ◌∷◌, ◌++◌, length, map, drop, fold, get_or, ap, sym, inl, inr}
use Rattle.std.proofs.lemmas.Bool.{cases_lt}
use Rattle.std.proofs.lemmas.List.{append_assoc, append-nil, drop_more, at_drop_more, at_drop_all}
use Rattle.lot_geom.specs.declared.cubic.Cubic.{Cubic}
use Rattle.lot_geom.specs.Lengths.{curve_length, curve_of, curves_from, segment_lengths}
use Rattle.lot_types.specs.declared.contour.Contour.{Contour}
use Rattle.lot_types.specs.declared.outline.Outline.{Outline}
use Rattle.lot_types.specs.declared.point.Point.{Point}
use Rattle.lot_types.specs.declared.seg.Seg.{Seg}
use Rattle.lot_trim.specs.declared.interval.Interval.{Interval}
use Rattle.lot_trim.specs.Kept.{part_in, parts_in, kept_of, kept_contours, kept_outlines}
use Rattle.lot_trim.specs.Run.{length_sum, end_of_segments, end_of_contours, outline_lengths}

-- ---- two lists side by side

-- y belongs to x, and what is after them belongs to one another too.
pub record BelongsTo {A : Type 0} {B : Type 0} (f : A → B) (xs : List A) (ys : List B) (i : ℕ) (x : A) (y : B) : Type 0 where
  pub within : i < length ys
  pub here : y ≡ f x
  pub after : drop (i + 1) ys ≡ map f (drop (i + 1) xs)

-- What begins with an item is not at the end.
more_left : {B : Type 0} → (ys rest : List B) (i : ℕ) (y : B) → drop i ys ≡ y ∷ rest → i < length ys
more_left ys rest i y h = elim (cases_lt i (length ys)) [
  | inl less ↦ less
  | inr more ↦ let none : drop i ys ≡ [] = at_drop_all (λ z. z) ys i more in absurd (cc)
]

pub belongs : {A : Type 0} → {B : Type 0} (f : A → B) (xs : List A) (ys : List B) (i : ℕ) (x : A) (y : B)
    → i < length xs → x ≡ get_or xs i x → y ≡ get_or ys i y → drop i ys ≡ map f (drop i xs)
    → BelongsTo f xs ys i x y
belongs f xs ys i x y lt at at' h =
    let rest : drop i ys ≡ f (get_or xs i x) ∷ map f (drop (i + 1) xs) = h ∙ ap (map f) (drop_more xs i x lt) in
    let lt' = more_left ys (map f (drop (i + 1) xs)) i (f (get_or xs i x)) rest in
    let e : get_or ys i y ∷ drop (i + 1) ys ≡ f (get_or xs i x) ∷ map f (drop (i + 1) xs) =
    sym (drop_more ys i y lt') ∙ rest in
    let head : get_or ys i y ≡ f (get_or xs i x) = cc in
    record { within = lt'; here = at' ∙ head ∙ ap f (sym at); after = cc }

-- ---- sums of lengths

pub summed_more : {A : Type 0} → (f : ℕ → A → ℕ) (start end whole : ℕ) (xs : List A) (i : ℕ) (x : A)
    → i < length xs → x ≡ get_or xs i x → end ≡ f start x → fold f start (drop i xs) ≡ whole
    → fold f end (drop (i + 1) xs) ≡ whole
summed_more f start end whole xs i x lt at e h =
    ap (λ (n : ℕ). fold f n (drop (i + 1) xs)) (e ∙ ap (f start) at)
    ∙ sym (at_drop_more (fold f start) xs i x lt) ∙ h

-- ---- contours

pub contour_more : (is : List Interval) (start end : ℕ) (cs made made' whole : List Contour) (i : ℕ) (c : Contour)
    → i < length cs → c ≡ get_or cs i c → made' ≡ made ++ kept_of is start c
    → end ≡ end_of_segments start (segment_lengths c)
    → made ++ kept_contours is start (drop i cs) ≡ whole
    → made' ++ kept_contours is end (drop (i + 1) cs) ≡ whole
unfolding kept_contours
contour_more is start end cs made made' whole i c lt at kept e h =
    let after = drop (i + 1) cs in
    ap (λ (z : List Contour). z ++ kept_contours is end after) kept
    ∙ append_assoc made (kept_of is start c) (kept_contours is end after)
    ∙ ap (λ (n : ℕ). made ++ (kept_of is start c ++ kept_contours is n after)) e
    ∙ ap (λ (z : Contour). made ++ kept_contours is start (z ∷ after)) at
    ∙ ap (λ (z : List Contour). made ++ z) (sym (at_drop_more (kept_contours is start) cs i c lt))
    ∙ h

pub no_contour_left : (is : List Interval) (start : ℕ) (cs made whole : List Contour) (i : ℕ)
    → length cs ≤ i → made ++ kept_contours is start (drop i cs) ≡ whole → made ≡ whole
unfolding kept_contours
no_contour_left is start cs made whole i le h =
    sym (append-nil made)
    ∙ ap (λ (z : List Contour). made ++ z) (sym (at_drop_all (kept_contours is start) cs i le)) ∙ h

-- ---- outlines

pub outline_more : (is : List Interval) (start end : ℕ) (os made made' whole : List Outline) (i : ℕ) (o : Outline)
    (contours : List Contour) → i < length os → o ≡ get_or os i o → made' ≡ made ++ record { contours = contours } ∷ []
    → contours ≡ kept_contours is start o.contours → end ≡ end_of_contours start (outline_lengths o)
    → made ++ kept_outlines is start (drop i os) ≡ whole
    → made' ++ kept_outlines is end (drop (i + 1) os) ≡ whole
unfolding kept_outlines
outline_more is start end os made made' whole i o contours lt at grown kept e h =
    let after = drop (i + 1) os in
    ap (λ (z : List Outline). z ++ kept_outlines is end after) grown
    ∙ append_assoc made (record { contours = contours } ∷ []) (kept_outlines is end after)
    ∙ ap (λ (z : List Contour). made ++ record { contours = z } ∷ kept_outlines is end after) kept
    ∙ ap (λ (n : ℕ). made ++ record { contours = kept_contours is start o.contours } ∷ kept_outlines is n after) e
    ∙ ap (λ (z : Outline). made ++ kept_outlines is start (z ∷ after)) at
    ∙ ap (λ (z : List Outline). made ++ z) (sym (at_drop_more (kept_outlines is start) os i o lt))
    ∙ h

pub no_outline_left : (is : List Interval) (start : ℕ) (os made whole : List Outline) (i : ℕ)
    → length os ≤ i → made ++ kept_outlines is start (drop i os) ≡ whole → made ≡ whole
unfolding kept_outlines
no_outline_left is start os made whole i le h =
    sym (append-nil made)
    ∙ ap (λ (z : List Outline). made ++ z) (sym (at_drop_all (kept_outlines is start) os i le)) ∙ h

-- ---- curves

pub part_more : (i : Interval) (start end : ℕ) (from : Point) (segs : List Seg) (parts parts' whole : List Cubic) (k : ℕ)
    (s : Seg) → k < length segs → s ≡ get_or segs k s → parts' ≡ parts ++ part_in i start (curve_of from s)
    → end ≡ length_sum start (curve_length (curve_of from s))
    → parts ++ parts_in i start (curves_from from (drop k segs)) ≡ whole
    → parts' ++ parts_in i end (curves_from s.end (drop (k + 1) segs)) ≡ whole
unfolding parts_in
part_more i start end from segs parts parts' whole k s lt at grown e h =
    let after = drop (k + 1) segs in
    let c = curve_of from s in
    ap (λ (z : List Cubic). z ++ parts_in i end (curves_from s.end after)) grown
    ∙ append_assoc parts (part_in i start c) (parts_in i end (curves_from s.end after))
    ∙ ap (λ (n : ℕ). parts ++ (part_in i start c ++ parts_in i n (curves_from s.end after))) e
    ∙ ap (λ (z : Seg). parts ++ parts_in i start (curves_from from (z ∷ after))) at
    ∙ ap (λ (z : List Cubic). parts ++ z)
    (sym (at_drop_more (λ (z : List Seg). parts_in i start (curves_from from z)) segs k s lt))
    ∙ h

pub no_part_left : (i : Interval) (start : ℕ) (from : Point) (segs : List Seg) (parts whole : List Cubic) (k : ℕ)
    → length segs ≤ k → parts ++ parts_in i start (curves_from from (drop k segs)) ≡ whole → parts ≡ whole
unfolding parts_in
no_part_left i start from segs parts whole k le h =
    sym (append-nil parts)
    ∙ ap (λ (z : List Cubic). parts ++ z)
    (sym (at_drop_all (λ (z : List Seg). parts_in i start (curves_from from z)) segs k le)) ∙ h

-- The lengths of the segments from the next one on.
pub curve_belongs : (from : Point) (segs : List Seg) (lengths : List ℕ) (k : ℕ) (s : Seg) (d : ℕ)
    → k < length segs → s ≡ get_or segs k s → drop k lengths ≡ map curve_length (curves_from from (drop k segs))
    → (get_or lengths k d ≡ curve_length (curve_of from s))
    × (drop (k + 1) lengths ≡ map curve_length (curves_from s.end (drop (k + 1) segs)))
curve_belongs from segs lengths k s d lt at h =
    let after = drop (k + 1) segs in
    let rest : drop k lengths ≡ curve_length (curve_of from s) ∷ map curve_length (curves_from s.end after) =
    h ∙ at_drop_more (λ (z : List Seg). map curve_length (curves_from from z)) segs k s lt
    ∙ ap (λ (z : Seg). map curve_length (curves_from from (z ∷ after))) (sym at) in
    let lt' = more_left lengths (map curve_length (curves_from s.end after)) k (curve_length (curve_of from s)) rest in
    let e : get_or lengths k d ∷ drop (k + 1) lengths
    ≡ curve_length (curve_of from s) ∷ map curve_length (curves_from s.end after) =
    sym (drop_more lengths k d lt') ∙ rest in
    (cc, cc)
