use Rattle.std.proofs.Common.{◌≡◌, ◌∙◌, ℤ, pos, false, ap, rules}
use Rattle.std.specs.Int.{int_min}
use Rattle.std.specs.Prelude.{int_lt}
use Rattle.lot_outline.specs.Number.{half}
use Rattle.lot_outline.specs.Rectangle.{corner_radius}
use Rattle.lot_outline.proofs.Corners.{half_from_zero, not_below}
use Rattle.lot_outline.proofs.rectangle.corner_radius.Goals as goal

pub returns : goal.returns
unfolding corner_radius
returns c =
    let not_negative : int_lt c.args.r (pos 0) ≡ false = search rules in
    let x = half c.args.s.x in
    let y = half c.args.s.y in
    let greatest : c.smaller-greatest.result ≡ int_min x y = search rules in
    c.smaller.ensures
    ∙ ap (λ (z : ℤ). int_min c.args.r z) greatest
    ∙ not_below c.args.r x y (half_from_zero c.args.s.x) (half_from_zero c.args.s.y) not_negative
