-- The layers before this one are listed; those from it on give the rest.
use Rattle.std.proofs.Common.{◌≡◌, ◌++◌, drop}
use Rattle.lot_refs.specs.Drawn.{drawn_from, drawn_layers}
use Rattle.lot_refs.proofs.drawn.list_layers.Given as goal

abbrev pub invariant-loop-l : goal.invariant-loop-l
invariant-loop-l l = l.drawn ++ drawn_from l.l (drop l.l l.layers) ≡ drawn_layers l.layers
