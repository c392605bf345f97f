-- The range of every kept and every evaluated number: ten million either way, in millionths. It is this project's own.
use Rattle.std.specs.Prelude.{ℤ, ◌≤◌, ◌^◌, unsigned_abs}

-- A number of millionths is in range where its magnitude is at most 10^13.
abbrev pub InRange : ℤ → Type 0
InRange z = unsigned_abs z ≤ 10 ^ 13
