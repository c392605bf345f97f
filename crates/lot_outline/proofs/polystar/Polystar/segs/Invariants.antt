use Rattle.std.proofs.Common.{◌≡◌, ◌-◌, map}
use Rattle.std.specs.List.{range_with_len}
use Rattle.lot_outline.specs.Polystar.{vertex, seg_from}
use Rattle.lot_outline.proofs.polystar.Polystar.segs.Given as goal

abbrev pub invariant-loop-j : goal.invariant-loop-j
invariant-loop-j l =
    record {
      from : l.from ≡ vertex l.self (l.j - 1);
      made : l.made ≡ map (seg_from l.self) (range_with_len 0 (l.j - 1));
    }
