use Rattle.std.proofs.Common.{◌≡◌, ◌+◌, [], ◌∷◌, ◌++◌, ℕ, take, take-suc, get_or, ap, ◌∙◌, sym, subst, add-one, rules}
use Rattle.lot_json.specs.Unescaped.{AreUnescapedBytes}
use Rattle.lot_json.proofs.UnescapedRuns.{unescaped_append}
use Rattle.lot_json.proofs.tokens.unescaped.unescaped_len.Goals as goal

pub loop-index-preserved : goal.loop-index-preserved
loop-index-preserved c =
    let s = c.args.bytes.now in
    let i = c.loop-index.index in
    let e : take (i + 1) s ≡ take i s ++ get_or s i 0 ∷ [] = ap (λ (z : ℕ). take z s) (add-one i) ∙ take-suc s i 0 c.loop-index-test.true in
    subst AreUnescapedBytes (sym e) (unescaped_append (take i s) (get_or s i 0 ∷ []) c.loop-index.invariant (c.is_unescaped_byte.ensures.0 (search rules), tt))
