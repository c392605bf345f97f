-- The text of an identifier.
use Rattle.std.proofs.Common.{◌≡◌, ◌∙◌, ℕ, ◌+◌, ◌≤◌, [], ◌++◌, codes, length, ap, sym, subst, arith}
use Rattle.std.proofs.lemmas.List.{length-append}
use Rattle.std.specs.Fmt.{decimal}
use Rattle.lot_svg.specs.Items.{opens, identifier_text}
use Rattle.lot_svg.specs.Written.{Written, append, put}

-- An identifier has at least one byte, so that there are no more of them than bytes.
pub longer : (s w : Written) (n : ℕ) → w ≡ append s (identifier_text n) → s.next ≤ length s.bytes + 1
    → w.next + 1 ≤ length w.bytes + 1
unfolding append identifier_text
longer s w n written within =
    let letter = codes "i" in
    let all = length-append s.bytes (letter ++ decimal n) in
    subst (λ (x : Written). x.next + 1 ≤ length x.bytes + 1) (sym written)
    (omega (arith, within, all, length-append letter (decimal n)))

pub counted : (s w : Written) (n : ℕ) → n ≡ s.next → w ≡ append s (identifier_text n)
    → record { bytes = w.bytes; next = w.next + 1 } ≡ put s (opens [] s.next)
unfolding append
counted s w n same written =
    ap (λ (x : Written). record { bytes = x.bytes; next = x.next + 1 })
    (written ∙ ap (λ (k : ℕ). append s (identifier_text k)) same)
