-- One more contour, and the end of the contours.
use Rattle.std.proofs.Common.{◌≡◌, ℕ, ◌+◌, ◌<◌, ◌≤◌, List, ◌∷◌, length, drop, get_or, sym, ◌∙◌, ap}
use Rattle.std.proofs.lemmas.List.{at_drop_more, at_drop_all}
use Rattle.lot_types.specs.declared.contour.Contour.{Contour}
use Rattle.lot_svg.specs.PathData.{contour_text, path_text}
use Rattle.lot_svg.specs.Written.{Written, append}
use Rattle.lot_svg.proofs.Appends.{appends, appends_nothing}

pub contour_more : (contours : List Contour) (i : ℕ) (c : Contour) (x y whole : Written)
    → i < length contours → c ≡ get_or contours i c → y ≡ append x (contour_text c)
    → append x (path_text (drop i contours)) ≡ whole → append y (path_text (drop (i + 1) contours)) ≡ whole
contour_more contours i c x y whole lt at written h =
    let after = path_text (drop (i + 1) contours) in
    ap (λ (z : Written). append z after) written
    ∙ appends x (contour_text c) after
    ∙ ap (λ (t : Contour). append x (path_text (t ∷ drop (i + 1) contours))) at
    ∙ ap (append x) (sym (at_drop_more path_text contours i c lt))
    ∙ h

pub none_left : (contours : List Contour) (i : ℕ) (x whole : Written)
    → length contours ≤ i → append x (path_text (drop i contours)) ≡ whole → x ≡ whole
none_left contours i x whole le h =
    sym (appends_nothing x) ∙ sym (ap (append x) (at_drop_all path_text contours i le)) ∙ h
