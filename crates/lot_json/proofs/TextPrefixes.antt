-- The prefix of bytes that a string takes, from what its parts do.
use Rattle.std.proofs.Common.{◌+◌, ◌-◌, ◌<◌, ◌≤◌, ℕ, List, [], ◌∷◌, length, length-drop, take, drop, get_or, ap, sym, subst, arith}
use Rattle.std.proofs.Math.Seq.{take-add}
use Rattle.std.proofs.lemmas.List.{take_rest}
use Rattle.lot_json.specs.declared.tokens.text_token.TextToken.{TextToken}
use Rattle.lot_json.specs.TextRest.{TakesRun}
use Rattle.lot_json.proofs.UnescapedRuns.{takes_both}
use Rattle.lot_json.proofs.Advances.{one_more}

-- After the first n, as the code slices the rest.
pub run_within : (n m : ℕ) (bytes : List ℕ) → n ≤ length bytes → m ≤ length (take (length bytes - n) (drop n bytes)) → n + m ≤ length bytes
run_within n m bytes l k =
    let e = ap length (take_rest bytes n) in
    let d = length-drop n bytes in
    omega (arith, l, k, e, d)

pub run_after : (n m : ℕ) (bytes : List ℕ) (old mid new : TextToken) → TakesRun (take n bytes) old mid → TakesRun (take m (take (length bytes - n) (drop n bytes))) mid new → TakesRun (take (n + m) bytes) old new
run_after n m bytes old mid new h k =
    subst (λ (z : List ℕ). TakesRun z old new) (sym (take-add n m bytes))
    (takes_both (take n bytes) (take m (drop n bytes)) old mid new h (subst (λ (z : List ℕ). TakesRun (take m z) mid new) (take_rest bytes n) k))

pub byte_after : (n : ℕ) (bytes : List ℕ) (old mid new : TextToken) → n < length bytes → TakesRun (take n bytes) old mid → TakesRun (get_or bytes n 0 ∷ []) mid new → TakesRun (take (n + 1) bytes) old new
byte_after n bytes old mid new l h k =
    subst (λ (z : List ℕ). TakesRun z old new) (sym (one_more bytes n l)) (takes_both (take n bytes) (get_or bytes n 0 ∷ []) old mid new h k)
