-- Sums, differences and halves of numbers. The rounding and the limits are this project's own.
use Rattle.std.specs.Prelude.{ℤ, pos, unsigned_abs, ◌+ℤ◌, ◌-ℤ◌}
use Rattle.lot_num.specs.Round.{rnd, limit}

unfoldable pub plus : ℤ → ℤ → ℤ
plus x y = limit (x +ℤ y)

unfoldable pub minus : ℤ → ℤ → ℤ
minus x y = limit (x -ℤ y)

-- The half of a size, which counts by its magnitude.
unfoldable pub half : ℤ → ℤ
half size = limit (rnd (pos (unsigned_abs size)) (pos 2))
