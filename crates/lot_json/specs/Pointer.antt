-- The text of a JSON pointer by RFC 6901.
use Rattle.std.specs.Prelude.{◌==◌, ℕ, List, [], ◌∷◌, ◌++◌, codes, if◌then◌else◌}
use Rattle.std.specs.Fmt.{decimal}
use Rattle.lot_json.specs.Bytes.{tilde, slash}
use Rattle.lot_json.specs.declared.tree.pointer.Step.{Step}
use Rattle.lot_json.specs.declared.tree.pointer.Step.TheVariants.{Name, Index}

-- '~' is written as "~0" and '/' as "~1", and every other byte as it is.
abbrev pub escaped_byte : ℕ → List ℕ
escaped_byte c = if c == tilde then codes "~0" else if c == slash then codes "~1" else c ∷ []

abbrev pub escaped : List ℕ → List ℕ
escaped [] = []
escaped (c ∷ cs) = escaped_byte c ++ escaped cs

-- The text of a step after its '/': a name with its escapes, or an index in decimal.
unfoldable pub step_text : Step → List ℕ
step_text (Name name) = escaped name
step_text (Index i) = decimal i

-- The text of the steps from the root, with a '/' before each.
unfoldable pub pointer_text : List Step → List ℕ
pointer_text [] = []
pointer_text (step ∷ steps) = codes "/" ++ step_text step ++ pointer_text steps
