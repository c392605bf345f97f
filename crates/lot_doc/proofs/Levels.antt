-- What is read of an item holds at each number of levels that is enough.
use Rattle.std.proofs.Common.{ℕ, zero, suc, ◌<◌, List, Result, arith}
use Rattle.lot_types.specs.declared.item.Item.{Item}
use Rattle.lot_types.specs.declared.refusal.Refusal.{Refusal}
use Rattle.lot_types.specs.declared.slot.Use.{Use}
use Rattle.lot_json.specs.declared.tree.json.Json.{Json, size-Json}
use Rattle.lot_json.specs.declared.tree.pointer.Step.{Step}
use Rattle.lot_read.specs.Outcome.{Gives}
use Rattle.lot_read.specs.Rows.{object}
use Rattle.lot_read.specs.SlotNames.{Names}
use Rattle.lot_doc.specs.Item.{item_rows, item_within}

pub by_level : (r : Result Item Refusal) (old new : List Use) (names : Names) (at : List Step) (v : Json)
    → ((n : ℕ) → size-Json v < suc n → Gives r old new (object (item_rows names (item_within names n)) at v))
    → (n : ℕ) → size-Json v < n → Gives r old new (item_within names n at v)
unfolding item_within
by_level r old new names at v one zero h = absurd (omega (arith, h))
by_level r old new names at v one (suc n) h = one n h
