use Rattle.std.proofs.Common.{◌≡◌, ◌≤◌, ℕ, List, length, take}
use Rattle.lot_json.specs.declared.tree.json.Json.{Json}
use Rattle.lot_json.specs.Lookup.{last_value}
use Rattle.lot_json.proofs.tree.json.JsonMembers.get.Given as goal

pub record IsSearching (name : List ℕ) (pairs : List (List ℕ × Json)) (at : ℕ) : Type 0 where
  pub within : at ≤ length pairs
  pub missed : last_value name pairs ≡ last_value name (take at pairs)

abbrev pub invariant-loop-at : goal.invariant-loop-at
invariant-loop-at l = IsSearching l.name l.pairs l.at

abbrev pub decreases-loop-at : goal.decreases-loop-at
decreases-loop-at l = l.at
