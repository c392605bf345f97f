use Rattle.std.proofs.Common.{◌≡◌, ℕ, ◌+◌, ◌<◌, ◌≤◌, List, [], ◌∷◌, ◌++◌, length, take, set, refl, sym, ap, ◌∙◌, arith, append_assoc}
use Rattle.std.proofs.Math.Seq.{take-append-add}
use Rattle.std.proofs.lemmas.List.{length-set, length-take-le, take-append-le, take_more_set}
use Rattle.lot_num.specs.Digits.{after_point}
use borrow.Rule.Slice.PartMut.{put_mid, post_of}

-- after `piece` was written to `out[at..at + k]`, the text up to a place in the piece
take-put_mid_part : (out piece : List ℕ) (at k m : ℕ) → at ≤ length out → m ≤ length piece
    → take (at + m) (put_mid at k out piece) ≡ take at out ++ take m piece
take-put_mid_part out piece at k m inside within =
    ap (λ (n : ℕ). take (n + m) (put_mid at k out piece)) (sym (length-take-le at out inside))
    ∙ take-append-add (take at out) (piece ++ post_of at k out) m
    ∙ ap (λ (z : List ℕ). take at out ++ z) (take-append-le m piece (post_of at k out) within)

after_point_some : (decimals : List ℕ) → 0 < length decimals → after_point decimals ≡ 46 ∷ decimals
after_point_some [] some = absurd (omega (arith, some))
after_point_some (digit ∷ more) some = refl

-- after a point was written at `at` and `piece` after it, the text up to the m-th byte of the piece
pub take-decimals : (out piece decimals : List ℕ) (at k m : ℕ) → at < length out → 0 < m → m ≤ length piece
    → take m piece ≡ decimals → take (at + 1 + m) (put_mid (at + 1) k (set out at 46) piece) ≡ take at out ++ after_point decimals
take-decimals out piece decimals at k m inside some within kept =
    take-put_mid_part (set out at 46) piece (at + 1) k m (omega (arith, length-set out at 46)) within
    ∙ ap (λ (z : List ℕ). z ++ take m piece) (take_more_set out at 46 inside)
    ∙ append_assoc (take at out) (46 ∷ []) (take m piece)
    ∙ ap (λ (z : List ℕ). take at out ++ 46 ∷ z) kept
    ∙ ap (λ (z : List ℕ). take at out ++ z) (sym (after_point_some decimals (omega (arith, ap length kept, length-take-le m piece within))))
