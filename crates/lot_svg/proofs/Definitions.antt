-- A definition opens after other bytes, and a gradient is written in its parts.
use Rattle.std.proofs.Common.{◌≡◌, ◌∙◌, ℕ, ◌+◌, List, [], ◌++◌, Result, OnOk, ap, sym, append_assoc}
use Rattle.std.proofs.lemmas.Result.{on_ok_weaker}
use Rattle.lot_svg.specs.Element.{attribute_end, tag_end}
use Rattle.lot_svg.specs.Items.{opens, identifier_text}
use Rattle.lot_svg.specs.Written.{Written, append, put}
use Rattle.lot_svg.proofs.Appends.{appends}

opens_next : (s : Written) (before : List ℕ)
    → put (append s before) (opens [] (append s before).next) ≡ put s (opens before s.next)
unfolding append
opens_next s before =
    ap (λ (bytes : List ℕ). record { bytes = bytes; next = s.next + 1 })
    (append_assoc s.bytes before (identifier_text s.next))

-- Bytes are written, and then the next identifier.
pub opens_after : {T E : Type 0} (r : Result T E) (s x y : Written) (before : List ℕ)
    → x ≡ append s before → OnOk r (y ≡ put x (opens [] x.next)) → OnOk r (y ≡ put s (opens before s.next))
opens_after r s x y before e h =
    on_ok_weaker r (λ opened. opened ∙ ap (λ (z : Written). put z (opens [] z.next)) e ∙ opens_next s before) h

regrouped : (s : Written) (attributes stops close : List ℕ)
    → append (append (append s attribute_end) attributes) (tag_end ++ stops ++ close)
    ≡ append (append s (attribute_end ++ attributes ++ tag_end ++ stops)) close
regrouped s attributes stops close =
    let start = attribute_end ++ attributes in
    ap (λ (z : Written). append z (tag_end ++ stops ++ close)) (appends s attribute_end attributes)
    ∙ sym (appends (append s start) (tag_end ++ stops) close)
    ∙ ap (λ (z : Written). append z close) (appends s start (tag_end ++ stops))
    ∙ ap (λ (bytes : List ℕ). append (append s bytes) close) (sym (append_assoc start tag_end stops))

-- A gradient is written in its parts, after its identifier.
pub gradient_written : {T E : Type 0} (r : Result T E) (s w x y z : Written) (attributes stops close : List ℕ)
    → w ≡ s → x ≡ append w attribute_end → y ≡ append x attributes → OnOk r (z ≡ append y (tag_end ++ stops ++ close))
    → OnOk r (z ≡ append (append s (attribute_end ++ attributes ++ tag_end ++ stops)) close)
gradient_written r s w x y z attributes stops close opened quoted written h =
    on_ok_weaker r (λ closed.
    closed
    ∙ ap (λ (t : Written). append t (tag_end ++ stops ++ close))
    (written ∙ ap (λ (t : Written). append t attributes) (quoted ∙ ap (λ (t : Written). append t attribute_end) opened))
    ∙ regrouped s attributes stops close) h
