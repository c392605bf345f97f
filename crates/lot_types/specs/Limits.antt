-- How long the lists of a document are at most. The limits are this project's own.
use Rattle.std.specs.Prelude.{ℕ}

-- The greatest number of items of a list that has no smaller limit of its own.
abbrev pub max_list_items : ℕ
max_list_items = 65536

-- The greatest number of layers of a composition.
abbrev pub max_layers : ℕ
max_layers = 4096

-- The greatest number of compositions: 1,024 assets and the main composition.
abbrev pub max_comps : ℕ
max_comps = 1025
