-- The integer square root.
use Rattle.std.specs.Prelude.{ℕ, ◌+◌, ◌*◌, Bool, nat_lt}
use Rattle.lot_num.specs.Least.{least}

-- The square of the number after r is above x.
abbrev pub next_square_above : ℕ → ℕ → Bool
next_square_above x r = nat_lt x ((r + 1) * (r + 1))

-- The greatest number whose square is not above x, which is the least whose next square is above it.
unfoldable pub root : ℕ → ℕ
root x = least (next_square_above x) x
