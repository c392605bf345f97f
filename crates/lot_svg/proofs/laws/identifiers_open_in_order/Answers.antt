use Rattle.std.proofs.Common.{[], arith}
use Rattle.lot_svg.specs.Layer.{items}
use Rattle.lot_svg.proofs.Order.{follows}
use Rattle.lot_svg.proofs.InWords.{in_order}
use Rattle.lot_svg.proofs.laws.identifiers_open_in_order.Goals as goal

pub returns : goal.returns
returns c = λ f. in_order 1 (items (λ p. p) f 1) (follows (λ p. p) f 1 1 [] (omega arith))
