-- The three literal names of JSON by RFC 8259, section 3.
use Rattle.std.specs.Prelude.{ℕ, true, false, List, codes}
use Rattle.lot_json.specs.declared.tree.json.Json.{Json}
use Rattle.lot_json.specs.declared.tree.json.Json.TheVariants as tree
use Rattle.lot_json.specs.declared.machine.literal.Literal.{Literal}
use Rattle.lot_json.specs.declared.machine.literal.Literal.TheVariants as literal

-- The letters of a literal name.
abbrev pub letters_of : Literal → List ℕ
letters_of literal.Null = codes "null"
letters_of literal.True = codes "true"
letters_of literal.False = codes "false"

-- The value of a literal name.
abbrev pub value_of : Literal → Json
value_of literal.Null = tree.Null
value_of literal.True = tree.Bool true
value_of literal.False = tree.Bool false
