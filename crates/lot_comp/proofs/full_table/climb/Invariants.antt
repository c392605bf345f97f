use Rattle.std.proofs.Common.{ℕ, ◌+◌, ◌<◌, length, reverse, Option, Some, None}
use Rattle.std.specs.Prelude.{IfSome}
use Rattle.std.specs.List.{All}
use Rattle.lot_comp.specs.FullTable.{IsClimbed}
use Rattle.lot_refs.specs.Linked.{layers_of}
use Rattle.lot_refs.specs.Parents.{ancestors_of}
use Rattle.lot_types.specs.declared.doc.Doc.{Doc}
use Rattle.lot_comp.proofs.full_table.climb.Given as goal

abbrev pub invariant-loop-k : goal.invariant-loop-k
invariant-loop-k l =
    record {
      climbed : IsClimbed (layers_of l.d l.c) l.l l.at (reverse l.left);
      at : IfSome l.at (λ k. k < length (layers_of l.d l.c));
      within : All (λ k. k < length (layers_of l.d l.c)) l.left;
    }

abbrev pub height : Doc → ℕ → Option ℕ → ℕ
height d c None = 0
height d c (Some k) = 1 + length (ancestors_of (layers_of d c) k)

abbrev pub decreases-loop-k : goal.decreases-loop-k
decreases-loop-k l = height l.d l.c l.at
