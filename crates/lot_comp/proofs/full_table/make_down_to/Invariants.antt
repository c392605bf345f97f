use Rattle.std.proofs.Common.{ℕ, ◌<◌, length, reverse, Option, Some}
use Rattle.std.specs.List.{All}
use Rattle.lot_comp.specs.FullTable.{AreFullIfMade, IsMade, IsLeft}
use Rattle.lot_refs.specs.Linked.{layers_of}
use Rattle.lot_comp.proofs.full_table.make_down_to.Given as goal

abbrev pub invariant-loop-k : goal.invariant-loop-k
invariant-loop-k l =
    record {
      full : AreFullIfMade l.d l.c l.t l.made;
      left : (above : Option ℕ) × IsLeft (layers_of l.d l.c) l.made l.l above (reverse l.left);
      within : All (λ k. k < length (layers_of l.d l.c)) l.left;
      kept : (k : ℕ) → IsMade l.fn.made (Some k) → IsMade l.made (Some k);
    }

abbrev pub decreases-loop-k : goal.decreases-loop-k
decreases-loop-k l = length l.left
