-- One more stop of a gradient, and the end of the stops.
use Rattle.std.proofs.Common.{◌≡◌, ℕ, ◌+◌, ◌<◌, ◌≤◌, List, ◌∷◌, length, drop, flat_map, get_or, sym, ◌∙◌, ap}
use Rattle.std.proofs.lemmas.List.{at_drop_more, at_drop_all}
use Rattle.lot_types.specs.declared.stop.Stop.{Stop}
use Rattle.lot_svg.specs.Paint.{stop_text}
use Rattle.lot_svg.specs.Written.{Written, append}
use Rattle.lot_svg.proofs.Appends.{appends, appends_nothing}

pub stop_more : (stops : List Stop) (i : ℕ) (s : Stop) (x y whole : Written)
    → i < length stops → s ≡ get_or stops i s → y ≡ append x (stop_text s)
    → append x (flat_map stop_text (drop i stops)) ≡ whole → append y (flat_map stop_text (drop (i + 1) stops)) ≡ whole
stop_more stops i s x y whole lt at written h =
    let after = flat_map stop_text (drop (i + 1) stops) in
    ap (λ (z : Written). append z after) written
    ∙ appends x (stop_text s) after
    ∙ ap (λ (t : Stop). append x (flat_map stop_text (t ∷ drop (i + 1) stops))) at
    ∙ ap (append x) (sym (at_drop_more (flat_map stop_text) stops i s lt))
    ∙ h

pub none_left : (stops : List Stop) (i : ℕ) (x whole : Written)
    → length stops ≤ i → append x (flat_map stop_text (drop i stops)) ≡ whole → x ≡ whole
none_left stops i x whole le h =
    sym (appends_nothing x) ∙ sym (ap (append x) (at_drop_all (flat_map stop_text) stops i le)) ∙ h
