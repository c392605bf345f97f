-- The styles from this one on are painted, from the last.
use Rattle.std.proofs.Common.{◌≡◌, ◌≤◌, length, map, drop, reverse, Some}
use Rattle.lot_comp.specs.Shape.{style_paint}
use Rattle.lot_comp.proofs.shape.paint_styles.Given as goal

abbrev pub invariant-loop-i : goal.invariant-loop-i
invariant-loop-i l =
    record {
      within : l.i ≤ length l.styles;
      made : map Some l.paints ≡ map (style_paint l.d l.t l.items l.found.leaves) (reverse (drop l.i l.styles));
    }

abbrev pub decreases-loop-i : goal.decreases-loop-i
decreases-loop-i l = l.i
