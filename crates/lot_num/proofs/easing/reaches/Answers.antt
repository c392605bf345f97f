use Rattle.lot_num.proofs.Curves.{compares}
use Rattle.lot_num.proofs.easing.reaches.Goals as goal

pub returns : goal.returns
returns c =
    compares _ _ _ c.args.den (cc (c.weights-p.ensures.first, c.weights-p.ensures.second, c.weights-p.ensures.end))
