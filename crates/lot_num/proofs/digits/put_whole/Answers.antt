use Rattle.std.proofs.Common.{◌≡◌, ℕ, List, ◌++◌, length, take, ap, ◌∙◌, arith, rules}
use Rattle.std.proofs.lemmas.Slice.{take-put_mid}
use Rattle.std.specs.Fmt.{decimal}
use Rattle.lot_num.proofs.LastDigits.{last_digits-all}
use Rattle.lot_num.specs.Digits.{last_digits}
use Rattle.lot_num.proofs.digits.put_whole.Goals as goal

pub returns-clause-text : goal.returns-clause-text
returns-clause-text c =
    let filled : c.put_last_digits.new.out ≡ last_digits (length (decimal c.args.n)) c.args.n = search rules in
    let whole : c.put_last_digits.new.out ≡ decimal c.args.n = filled ∙ last_digits-all c.args.n (omega arith) in
    take-put_mid c.args.at _ c.args.out.now c.put_last_digits.new.out _ (omega (arith, ap length whole)) (omega arith)
    ∙ ap (λ (z : List ℕ). take c.args.at c.args.out.now ++ z) whole
