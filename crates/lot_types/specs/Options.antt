-- Lists of values of which some may be missing.
use Rattle.std.specs.Prelude.{List, [], ◌∷◌, Option, Some, None}

abbrev pub put_before : {A : Type 0} → Option A → Option (List A) → Option (List A)
put_before (Some x) (Some xs) = Some (x ∷ xs)
put_before (Some x) None = None
put_before None xs = None

-- All values, where none is missing.
abbrev pub all_present : {A : Type 0} → List (Option A) → Option (List A)
all_present [] = Some []
all_present (x ∷ xs) = put_before x (all_present xs)
