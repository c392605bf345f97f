-- The lengths before this place are evaluated.
use Rattle.lot_paint.proofs.Lengths.{AreMade}
use Rattle.lot_paint.proofs.dashes.lengths_at.Given as goal

abbrev pub invariant-loop-dash : goal.invariant-loop-dash
invariant-loop-dash l = AreMade l.d l.t l.dashes l.made l.dash-index
