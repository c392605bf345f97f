-- The member of an object by its name: the last of that name, unless its value is null.
use Rattle.std.specs.Prelude.{ℕ, Bool, true, false, Option, Some, None, List, fold, bytes_eq, if◌then◌else◌}
use Rattle.lot_json.specs.declared.tree.json.Json.{Json, out-Json}
use Rattle.lot_json.specs.declared.tree.json.JsonMembers.{JsonMembers}
use Rattle.lot_json.specs.declared.tree.json.Json.TheOpen.{Json-F}
use Rattle.lot_json.specs.declared.tree.json.Json.TheOpen as layer

-- A value with its items and members is null.
abbrev pub is_null_layer : Json-F Json JsonMembers → Bool
is_null_layer layer.Null = true
is_null_layer (layer.Bool b) = false
is_null_layer (layer.Number m) = false
is_null_layer (layer.Text s) = false
is_null_layer (layer.Items xs) = false
is_null_layer (layer.Members ps) = false

-- The value is null.
abbrev pub is_null : Json → Bool
is_null x = is_null_layer (out-Json x)

-- The value, unless it is null.
abbrev pub unless_null : Option Json → Option Json
unless_null None = None
unless_null (Some x) = if is_null x then None else Some x

-- The value of the last member of that name.
abbrev pub last_value : List ℕ → List (List ℕ × Json) → Option Json
last_value name pairs = fold (λ found pair. if bytes_eq pair.0 name then Some pair.1 else found) None pairs

-- The value of the last member of that name, unless it is null.
unfoldable pub member : List ℕ → List (List ℕ × Json) → Option Json
member name pairs = unless_null (last_value name pairs)
