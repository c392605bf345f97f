use Rattle.std.proofs.Common.{rules, ◌≡◌, ◌^◌, ◌*ℤ◌, pos, unsigned_abs, ◌<◌, arith}
use Rattle.lot_num.specs.Round.{rnd}
use Rattle.lot_paint.proofs.Bytes.{byte_small}
use Rattle.lot_paint.proofs.color.color_byte.Goals as goal

pub overflow_cast-result : goal.overflow_cast-result
overflow_cast-result c =
    let v = c.component_in_range.result in
    let small = byte_small v c.component_in_range.ensures.small in
    let is : c.unsigned_abs.result ≡ unsigned_abs (rnd (v *ℤ pos 255) (pos (10 ^ 6))) = search rules in
    let lt : c.unsigned_abs.result < 2 ^ 8 = omega (arith, is, small) in
    search rules
