use Rattle.lot_svg.proofs.Items.{writes_svg}
use Rattle.lot_svg.proofs.laws.calls_give_the_text.Goals as goal

pub returns : goal.returns
returns c = λ w h f. writes_svg w h (λ p. p) f
