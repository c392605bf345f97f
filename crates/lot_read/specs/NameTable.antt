-- The table of the names of slots, as lists of bytes.
use Rattle.std.specs.Prelude.{ℕ, List, map, unwrap_or}
use Rattle.std.specs.declared.vec.Vec.{Vec}
use Rattle.std.specs.declared.alloc.Global.{Global}
use Rattle.lot_read.specs.declared.slot_names.LastPair.{LastPair}
use Rattle.lot_read.specs.Findings.{Pairs}
use Rattle.lot_read.specs.SlotNames.{NamedPair, all_names, is_there, last_pair}

abbrev pub Entries : Type 0
Entries = List (Vec ℕ Global × LastPair)

abbrev pub seen : Entries → List (List ℕ × LastPair)
seen es = map (λ e. (e.0.items, e.1)) es

-- The slots that the entries of the table are.
abbrev pub slots_in : Entries → List NamedPair
slots_in es = map (λ e. record { name = e.0.items; pair = e.1.index }) es

-- The last pair of a name that is among the members.
abbrev pub marked_last : Pairs → List ℕ → LastPair
marked_last ps name = record { index = unwrap_or (last_pair name ps) 0; is_there = is_there ps name }

-- Each name where it first comes, with its last pair.
abbrev pub marked_names : Pairs → List (List ℕ × LastPair)
marked_names ps = map (λ name. (name, marked_last ps name)) (all_names ps)
