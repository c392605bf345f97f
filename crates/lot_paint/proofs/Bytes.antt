-- The bytes of colors.
use Rattle.std.proofs.Common.{ℕ, ℤ, suc, pos, negsuc, ◌≤◌, ◌*◌, ◌^◌, ◌*ℤ◌, unsigned_abs, arith}
use Rattle.std.proofs.lemmas.Int.{ints}
use Rattle.lot_num.specs.Round.{nearest, rnd}

nearest_small : (n : ℕ) → n ≤ 255 * 10 ^ 6 → nearest n (10 ^ 6) ≤ 255
nearest_small n h = omega (arith, h)

rounded_small : (x : ℤ) → unsigned_abs x ≤ 255 * 10 ^ 6 → unsigned_abs (rnd x (pos (10 ^ 6))) ≤ 255
rounded_small (pos n) h = nearest_small n h
rounded_small (negsuc n) h =
    let small = nearest_small (suc n) h in
    omega (arith, ints, small)

-- A component is at most 255 of 255.
pub byte_small : (v : ℤ) → unsigned_abs v ≤ 10 ^ 6 → unsigned_abs (rnd (v *ℤ pos 255) (pos (10 ^ 6))) ≤ 255
byte_small v h = rounded_small (v *ℤ pos 255) (omega (arith, ints, h))
