use Rattle.std.proofs.Common.{◌∷◌, ◌++◌, List, ℕ, length, take-append-drop, drop, drop-cons, suc, ap, sym, ◌∙◌}
use Rattle.lot_json.proofs.tokens.unescaped.string_without_escapes.Goals as goal

pub returns-clause-spelled : goal.returns-clause-spelled
returns-clause-spelled c =
    let bytes = c.args.bytes.now in
    let n = length c.unescaped_prefix-text.result.now in
    let rest = drop (suc n) bytes in (
      rest,
      sym (take-append-drop n bytes) ∙ ap (λ (z : List ℕ). z ++ drop n bytes) (sym c.unescaped_prefix-text.ensures.prefix)
          ∙ ap (λ (z : List ℕ). c.unescaped_prefix-text.result.now ++ z) (drop-cons bytes n 0 c.if-text-bytes.false ∙ ap (λ (z : ℕ). z ∷ rest) c.if-bytes-text-ne34.false),
    )
