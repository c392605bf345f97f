-- The names of slots. That a name has the place where it first comes, and that one whose last value is `null` is
-- absent, is this project's own.
use Rattle.std.specs.Prelude.{◌≡◌, ℕ, ◌+◌, Bool, true, false, not, List, [], ◌∷◌, Option, Some, None, is_some, position, map, filter, slice_get, option_map}
use Rattle.std.specs.List.{list_any}
use Rattle.std.specs.Str.{bytes_eq}
use Rattle.lot_json.specs.declared.tree.json.Json.{Json}
use Rattle.lot_json.specs.Lookup.{member}
use Rattle.lot_read.specs.Findings.{Pairs, ◌>>=◌}

-- Names, in order.
abbrev pub Names : Type 0
Names = List (List ℕ)

-- The greatest number of pairs of the object of the slots.
abbrev pub max_slots : ℕ
max_slots = 65536

-- Each name once, where it first comes.
abbrev pub first_come : Names → Names
first_come [] = []
first_come (name ∷ names) = name ∷ filter (λ later. not (bytes_eq name later)) (first_come names)

abbrev pub all_names : Pairs → Names
all_names ps = first_come (map (λ p. p.0) ps)

-- A member of this name is there.
abbrev pub is_there : Pairs → List ℕ → Bool
is_there ps name = is_some (member name ps)

-- The names of the members that are there, each where it first comes.
unfoldable pub names_of : Pairs → Names
names_of ps = filter (is_there ps) (all_names ps)

abbrev pub among : List ℕ → Names → Bool
among name names = list_any (bytes_eq name) names

-- The place of a name among the names, which is the number of its slot.
abbrev pub place_of : List ℕ → Names → Option ℕ
place_of name names = position (bytes_eq name) names

abbrev pub later_or_here : Option ℕ → Bool → Option ℕ
later_or_here (Some i) here = Some (i + 1)
later_or_here None true = Some 0
later_or_here None false = None

-- The index of the last pair of this name.
abbrev pub last_pair : List ℕ → Pairs → Option ℕ
last_pair name [] = None
last_pair name (p ∷ ps) = later_or_here (last_pair name ps) (bytes_eq p.0 name)

-- A slot: its name, and the index of its pair among the members.
pub record NamedPair : Type 0 where
  pub name : List ℕ
  pub pair : ℕ

abbrev pub names_in : List NamedPair → Names
names_in slots = map (λ s. s.name) slots

-- A slot of these members: its value is there, and its pair is the last of its name.
pub record IsSlotOf (ps : Pairs) (slot : NamedPair) : Type 0 where
  pub there : is_there ps slot.name ≡ true
  pub last : last_pair slot.name ps ≡ Some slot.pair

-- The value of the pair of this index.
abbrev pub value_at : Pairs → ℕ → Option Json
value_at ps i = option_map (λ p. p.1) (slice_get ps i)

-- The value of the slot of this number.
abbrev pub slot_value : Pairs → List NamedPair → ℕ → Option Json
slot_value ps slots n = slice_get slots n >>= λ slot. member slot.name ps
