use Rattle.std.proofs.Common.{rules, ◌≡◌, ◌-◌, ◌/◌, ◌%◌, nat_le, if◌then◌else◌, sym, arith}
use Rattle.std.proofs.Math.Nat.{one-le-pow}
use Rattle.lot_json.proofs.CompletedNumbers.{lowered_away, lowered_to, tiny}
use Rattle.lot_json.proofs.tokens.number_token.divide_by_power.Goals as goal

pub returns-then-by-gt20 : goal.returns-then-by-gt20
returns-then-by-gt20 c = sym (lowered_away _ _ (tiny _ _ (search rules) (omega arith)))

pub nonzero_div-tenths : goal.nonzero_div-tenths
nonzero_div-tenths c = omega (arith, one-le-pow (c.args.by - 1) 10 (omega arith))

pub returns : goal.returns
returns c = let e : c.from.result ≡ (if nat_le 5 (c.args.lead / c.pow.result % 10) then 1 else 0) = search rules in lowered_to _ _ _ _ c.pow.ensures e
