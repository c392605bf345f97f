use Rattle.std.proofs.Common.{lit≤, sym, subst}
use Rattle.lot_json.specs.NumberRest.{HasRoom}
use Rattle.lot_json.proofs.tokens.bounded_number.BoundedNumber.new.Goals as goal

pub invariant_of-result : goal.invariant_of-result
unfolding HasRoom
invariant_of-result c = subst (HasRoom 0) (sym c.new.ensures) (lit≤ tt)
