-- The radius of corners that is asked for, where it is not below 0.
use Rattle.std.proofs.Common.{◌≡◌, ℤ, pos, ◌≤ℤ◌, false, arith}
use Rattle.std.proofs.lemmas.Int.{ints}
use Rattle.std.specs.Int.{int_min}
use Rattle.std.specs.Prelude.{int_lt}
use Rattle.lot_types.specs.Handles.{nearest_in}
use Rattle.lot_outline.specs.Number.{half}

pub half_from_zero : (size : ℤ) → pos 0 ≤ℤ half size
unfolding half
half_from_zero size = grind (arith, ints)

pub not_below : (r x y : ℤ) → pos 0 ≤ℤ x → pos 0 ≤ℤ y → int_lt r (pos 0) ≡ false
    → int_min r (int_min x y) ≡ nearest_in (pos 0, int_min x y) r
not_below r x y p q h = grind (arith, ints)
