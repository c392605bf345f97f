use Rattle.lot_read.proofs.Keyframes.{AreKeysRead}
use Rattle.lot_read.proofs.keyframe.read_keys.Given as goal

abbrev pub invariant-loop-i : goal.invariant-loop-i
invariant-loop-i g l =
    AreKeysRead (g.V.ValueKind.kind l.value) (g.V.Reader.gives l.value) l.fn.at l.at l.fn.uses l.uses l.first l.rest l.i l.before l.made
