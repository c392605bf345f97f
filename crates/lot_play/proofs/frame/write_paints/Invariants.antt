-- The paints before this one are written.
use Rattle.std.proofs.Common.{◌≡◌, fold, take}
use Rattle.lot_svg.specs.Written.{paint}
use Rattle.lot_play.proofs.frame.write_paints.Given as goal

abbrev pub invariant-loop-p : goal.invariant-loop-p
invariant-loop-p l = l.w ≡ fold paint l.fn.w (take l.p-index l.paints)
