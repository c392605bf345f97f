use Rattle.std.proofs.Common.{◌≡◌, take, arith, rules}
use Rattle.lot_num.proofs.Pieces.{take-decimals}
use Rattle.lot_num.specs.Digits.{last_digits, without_end_zeros}
use Rattle.lot_num.proofs.digits.put_decimals.Goals as goal

pub returns-else-kept-eq0-clause-text : goal.returns-else-kept-eq0-clause-text
returns-else-kept-eq0-clause-text c =
    let kept : take c.put_trimmed-kept.result c.put_trimmed-kept.new.out ≡ without_end_zeros (last_digits c.args.places c.args.part) = search rules in
    take-decimals _ _ _ c.args.at _ _ (omega arith) (omega arith) (omega arith) kept
