use Rattle.std.proofs.Common.{◌≡◌, ◌≤◌, ◌++◌, length, take}
use Rattle.lot_outline.specs.Reversed.{segs_back}
use Rattle.lot_outline.proofs.reversed.segs_back.Given as goal

abbrev pub invariant-loop-at : goal.invariant-loop-at
invariant-loop-at l =
    record {
      within : l.at ≤ length l.segs;
      made : l.made ++ segs_back l.p (take l.at l.segs) ≡ segs_back l.p l.segs;
    }

abbrev pub decreases-loop-at : goal.decreases-loop-at
decreases-loop-at l = l.at
