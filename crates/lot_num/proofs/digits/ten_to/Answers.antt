use Rattle.std.proofs.Common.{arith}
use Rattle.std.proofs.Math.Nat.{one-le-pow}
use Rattle.lot_num.proofs.digits.ten_to.Goals as goal

pub returns-clause-positive : goal.returns-clause-positive
returns-clause-positive c = omega (arith, one-le-pow c.args.exponent 10 (omega arith), c.pow.ensures)
