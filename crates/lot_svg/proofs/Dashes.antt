-- One more length of a dash pattern, and the end of the lengths.
use Rattle.std.proofs.Common.{◌≡◌, ℕ, ℤ, ◌+◌, ◌<◌, ◌≤◌, List, ◌∷◌, ◌++◌, codes, length, drop, get_or, sym, ◌∙◌, ap}
use Rattle.std.proofs.lemmas.List.{at_drop_more, at_drop_all}
use Rattle.lot_svg.specs.Number.{length_text}
use Rattle.lot_svg.specs.Paint.{more_lengths_text}
use Rattle.lot_svg.specs.Written.{Written, append}
use Rattle.lot_svg.proofs.Appends.{appends, appends_nothing}

pub length_more : (lengths : List ℤ) (i : ℕ) (v : ℤ) (x y whole : Written)
    → i < length lengths → v ≡ get_or lengths i v → y ≡ append x (codes " " ++ length_text v)
    → append x (more_lengths_text (drop i lengths)) ≡ whole
    → append y (more_lengths_text (drop (i + 1) lengths)) ≡ whole
length_more lengths i v x y whole lt at written h =
    let after = more_lengths_text (drop (i + 1) lengths) in
    ap (λ (z : Written). append z after) written
    ∙ appends x (codes " " ++ length_text v) after
    ∙ ap (λ (w : ℤ). append x (more_lengths_text (w ∷ drop (i + 1) lengths))) at
    ∙ ap (append x) (sym (at_drop_more more_lengths_text lengths i v lt))
    ∙ h

pub none_left : (lengths : List ℤ) (i : ℕ) (x whole : Written)
    → length lengths ≤ i → append x (more_lengths_text (drop i lengths)) ≡ whole → x ≡ whole
none_left lengths i x whole le h =
    sym (appends_nothing x) ∙ sym (ap (append x) (at_drop_all more_lengths_text lengths i le)) ∙ h
