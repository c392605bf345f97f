use Rattle.std.proofs.Common.{◌≡◌, ℕ, ◌<◌}
use Rattle.std.specs.List.{All}
use Rattle.lot_json.specs.declared.tree.json.Json.{size-Json}
use Rattle.lot_read.specs.SlotNames.{names_in}
use Rattle.lot_read.proofs.Items.{IsRead}
use Rattle.lot_doc.specs.Item.{item_within}
use Rattle.lot_doc.proofs.item.+item.Given as goal

abbrev pub invariant-read_each-loop-i : goal.invariant-read_each-loop-i
invariant-read_each-loop-i l =
    (l.at ≡ l.fn.at) × ((n : ℕ) → All (λ j. size-Json j < n) l.items
    → IsRead (item_within (names_in l.names) n) l.fn.at l.at l.fn.uses l.uses l.items l.i l.made)
