-- One more segment, and the end of the segments.
use Rattle.std.proofs.Common.{◌≡◌, ℕ, ◌+◌, ◌<◌, ◌≤◌, Bool, ◌&&◌, nat_eq, List, ◌∷◌, ◌++◌, length, drop, get_or, sym, ◌∙◌, ap, inl, inr, arith}
use Rattle.std.proofs.lemmas.List.{at_drop_more, at_drop_all}
use Rattle.std.proofs.lemmas.Bool.Decides.{eqb_tells}
use Rattle.lot_types.specs.declared.point.Point.{Point}
use Rattle.lot_types.specs.declared.seg.Seg.{Seg}
use Rattle.lot_svg.specs.PathData.{is_last, kept_text, segments_text}
use Rattle.lot_svg.specs.Written.{Written, append}
use Rattle.lot_svg.proofs.Appends.{appends, appends_nothing}

-- A segment is the last one where the number after its place is that of all segments.
last_at : (segs : List Seg) (i : ℕ) (d : Seg) → i ≤ length segs → is_last (drop i segs) ≡ nat_eq i (length segs)
last_at segs i d le =
    elim (eqb_tells i (length segs)) [
      | inl h ↦
          let e = h.1 in
          let all : length segs ≤ i = omega (arith, e) in
          at_drop_all is_last segs i all ∙ sym h.0
      | inr h ↦
          let ne = h.1 in
          let lt : i < length segs = omega (arith, ne, le) in
          at_drop_more is_last segs i d lt ∙ sym h.0
    ]

pub kept_more : (closed closes : Bool) (from : Point) (segs : List Seg) (i : ℕ) (s : Seg) (x y whole : Written)
    → i < length segs → s ≡ get_or segs i s → closes ≡ (closed && nat_eq (i + 1) (length segs))
    → y ≡ append x (kept_text closes from s) → append x (segments_text closed from (drop i segs)) ≡ whole
    → append y (segments_text closed s.end (drop (i + 1) segs)) ≡ whole
kept_more closed closes from segs i s x y whole lt at e written h =
    let after = segments_text closed s.end (drop (i + 1) segs) in
    let le : i + 1 ≤ length segs = omega (arith, lt) in
    ap (λ (z : Written). append z after) written
    ∙ appends x (kept_text closes from s) after
    ∙ ap (λ (b : Bool). append x (kept_text b from s ++ after))
    (e ∙ ap (λ (b : Bool). closed && b) (sym (last_at segs (i + 1) s le)))
    ∙ ap (λ (t : Seg). append x (segments_text closed from (t ∷ drop (i + 1) segs))) at
    ∙ ap (append x) (sym (at_drop_more (segments_text closed from) segs i s lt))
    ∙ h

pub none_left : (closed : Bool) (from : Point) (segs : List Seg) (i : ℕ) (x whole : Written)
    → length segs ≤ i → append x (segments_text closed from (drop i segs)) ≡ whole → x ≡ whole
none_left closed from segs i x whole le h =
    sym (appends_nothing x) ∙ sym (ap (append x) (at_drop_all (segments_text closed from) segs i le)) ∙ h
