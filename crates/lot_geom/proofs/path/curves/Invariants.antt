-- The curves to the vertices before this one are made.
use Rattle.lot_geom.proofs.VertexLists.{AreMade}
use Rattle.lot_geom.proofs.path.curves.Given as goal

abbrev pub invariant-loop-to : goal.invariant-loop-to
invariant-loop-to l = AreMade l.b l.made l.to
