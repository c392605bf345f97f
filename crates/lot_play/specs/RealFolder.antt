-- What contracts see of the files of this machine.
use Rattle.std.specs.Prelude.{◌≡◌, ℕ, ◌+◌, ◌-◌, ◌^◌, List, Option, None, min}

-- No content is known of any name.
abbrev pub no_content : List ℕ → Option (List ℕ)
no_content name = None

-- The file that is open has this name, and gives its byte at this place next.
abbrev pub IsOpenAt : List ℕ → ℕ → List ℕ → ℕ → Type 0
IsOpenAt name place open_name open_place = (open_name ≡ name) × (open_place ≡ place)

-- The place after n bytes, which stays at the last value of 64 bits.
abbrev pub IsNextAfter : ℕ → ℕ → ℕ → Type 0
IsNextAfter n place next = next ≡ min (place + n) (2 ^ 64 - 1)

-- The file that is open has this name, and gives next what comes after n bytes from a place on.
abbrev pub IsOpenAfter : ℕ → List ℕ → ℕ → List ℕ → ℕ → Type 0
IsOpenAfter n name place open_name open_place = (open_name ≡ name) × IsNextAfter n place open_place
