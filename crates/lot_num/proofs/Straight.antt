-- The sine and the cosine of 0, by calculation.
use Rattle.std.proofs.Common.{◌≡◌, pos, ◌^◌, refl}
use Rattle.lot_num.specs.Angle.{sine, cosine, sine_near_zero, cosine_near_zero}

pub sine_of_zero : sine (pos 0) ≡ pos 0
unfolding sine sine_near_zero cosine_near_zero
sine_of_zero = refl

pub cosine_of_zero : cosine (pos 0) ≡ pos (10 ^ 6)
unfolding cosine sine_near_zero cosine_near_zero
cosine_of_zero = refl
