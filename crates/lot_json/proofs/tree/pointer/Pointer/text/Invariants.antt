-- The text that was written and that of the steps that are left are the whole.
use Rattle.std.proofs.Common.{◌≡◌, ◌++◌, drop}
use Rattle.lot_json.specs.Pointer.{pointer_text}
use Rattle.lot_json.proofs.tree.pointer.Pointer.text.Given as goal

abbrev pub invariant-loop-step : goal.invariant-loop-step
invariant-loop-step l = l.text ++ pointer_text (drop l.step-index l.step-items) ≡ pointer_text l.step-items
