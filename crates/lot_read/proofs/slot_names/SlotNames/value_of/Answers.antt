use Rattle.std.proofs.Common.{◌≡◌, ℕ, List, Some, ap, sym, ◌∙◌}
use Rattle.std.specs.declared.vec.Vec.{Vec}
use Rattle.std.specs.declared.alloc.Global.{Global}
use Rattle.std.specs.Option.{option_map}
use Rattle.std.specs.List.{slice_get}
use Rattle.std.proofs.lemmas.Option.{slice_get-map}
use Rattle.lot_json.specs.declared.tree.json.JsonMembers.{out-JsonMembers}
use Rattle.lot_read.specs.declared.slot_names.LastPair.{LastPair}
use Rattle.lot_read.specs.Findings.{Pairs}
use Rattle.lot_read.specs.SlotNames.{NamedPair, value_at}
use Rattle.lot_read.proofs.LastPairs.{value_found}
use Rattle.lot_read.proofs.slot_names.SlotNames.value_of.Goals as goal

abbrev slot_of : Vec ℕ Global × LastPair → NamedPair
slot_of e = record { name = e.0.items; pair = e.1.index }

pub returns : goal.returns
returns c =
    let pairs : Pairs = (out-JsonMembers c.args.slots.now).pairs in
    let slot : NamedPair = slot_of (c.in_ok-last.field-0-0.now, c.in_ok-last.last.now) in
    let entry : slice_get c.args.self.now c.args.slot ≡ Some slot =
    ap (λ (slots : List NamedPair). slice_get slots c.args.slot) (sym c.self.view_is)
    ∙ slice_get-map slot_of c.self.inside.names.entries c.args.slot
    ∙ ap (option_map slot_of) (sym c.in_ok-last.ensures.entry) in
    c.value_at.ensures
    ∙ ap (λ (ps : Pairs). value_at ps slot.pair) c.pairs.ensures
    ∙ sym (value_found pairs c.args.self.now c.args.slot slot c.requires.slots entry)
