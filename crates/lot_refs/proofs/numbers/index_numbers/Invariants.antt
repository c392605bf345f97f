use Rattle.std.proofs.Common.{◌≡◌, ◌≤◌, ℤ, length, drop}
use Rattle.std.specs.BTreeMap.{get}
use Rattle.std.specs.Ordering.{int_cmp}
use Rattle.lot_refs.specs.Parents.{find_from}
use Rattle.lot_refs.proofs.numbers.index_numbers.Given as goal

-- The map has the first layer of each number of the layers from l on.
abbrev pub invariant-loop-l : goal.invariant-loop-l
invariant-loop-l v =
    record {
      within : v.l ≤ length v.layers;
      found : (number : ℤ) → get int_cmp v.index number ≡ find_from v.l (drop v.l v.layers) number;
    }

abbrev pub decreases-loop-l : goal.decreases-loop-l
decreases-loop-l v = v.l
