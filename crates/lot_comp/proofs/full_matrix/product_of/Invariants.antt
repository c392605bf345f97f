use Rattle.std.proofs.Common.{◌≡◌, ◌<◌, ◌+◌, length, drop, get_or, Some}
use Rattle.lot_comp.specs.Full.{chain_product}
use Rattle.lot_comp.proofs.full_matrix.product_of.Given as goal

abbrev pub invariant-loop-i : goal.invariant-loop-i
invariant-loop-i l =
    (l.i < length l.rest) × (chain_product l.d l.c l.t (get_or l.rest l.i 0) (drop (l.i + 1) l.rest) ≡ Some l.made)

abbrev pub decreases-loop-i : goal.decreases-loop-i
decreases-loop-i l = l.i
