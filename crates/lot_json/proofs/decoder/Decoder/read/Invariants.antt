use Rattle.std.proofs.Common.{◌≡◌, ◌≤◌, ◌-◌, ◌++◌, List, ℕ, length, take}
use Rattle.std.proofs.Common.{Option}
use Rattle.lot_json.specs.declared.machine.machine.Machine.{Machine}
use Rattle.lot_json.specs.declared.refusal.JsonRefusal.{JsonRefusal}
use Rattle.lot_json.specs.Fed.{Reads}
use Rattle.lot_json.proofs.decoder.Decoder.read.Given as goal

-- What was read of the piece.
pub record IsReading (first : Machine) (start : ℕ) (before : Option JsonRefusal) (now : Machine) (taken : ℕ) (after : Option JsonRefusal) (read : List ℕ) : Type 0 where
  pub reads : (b : List ℕ) → Reads first start b → Reads now taken (b ++ read)
  pub same : after ≡ before

abbrev pub invariant-loop-at : goal.invariant-loop-at
invariant-loop-at l = IsReading l.initial.self.machine l.initial.self.taken l.initial.self.refusal l.self.machine l.self.taken l.self.refusal (take l.at l.piece) × (l.at ≤ length l.piece)

abbrev pub decreases-loop-at : goal.decreases-loop-at
decreases-loop-at l = length l.piece - l.at
