use Rattle.std.proofs.Common.{◌≤◌, ◌-◌, List, length, take}
use Rattle.lot_json.specs.declared.machine.container.Container.{Container}
use Rattle.lot_json.specs.Pending as pending
use Rattle.lot_json.specs.Pending.{State, at}
use Rattle.lot_json.specs.Residual.{Transition}
use Rattle.lot_json.proofs.tokens.bounded_number.BoundedNumber.take_from.Given as goal

abbrev pub invariant-loop-at : goal.invariant-loop-at
invariant-loop-at l = record {
  steps : (start : State) (stack : List Container) → Transition (take l.from l.bytes) start (at (pending.Number l.initial.self) stack) → Transition (take l.at l.bytes) start (at (pending.Number l.self) stack);
  from : l.from ≤ l.at;
  within : l.at ≤ length l.bytes;
}

abbrev pub decreases-loop-at : goal.decreases-loop-at
decreases-loop-at l = length l.bytes - l.at
