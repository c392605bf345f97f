use Rattle.std.proofs.Common.{◌≡◌, ◌<◌, ◌++◌, ◌∷◌, length}
use Rattle.std.specs.List.{All}
use Rattle.lot_refs.specs.Linked.{layers_of}
use Rattle.lot_refs.specs.Parents.{ancestors_of}
use Rattle.lot_comp.proofs.chain.chain_of.Given as goal

abbrev pub invariant-loop-k : goal.invariant-loop-k
invariant-loop-k l =
    record {
      at : l.at < length (layers_of l.d l.c);
      chain : l.chain ++ ancestors_of (layers_of l.d l.c) l.at ≡ l.l ∷ ancestors_of (layers_of l.d l.c) l.l;
      within : All (λ k. k < length (layers_of l.d l.c)) l.chain;
    }

abbrev pub decreases-loop-k : goal.decreases-loop-k
decreases-loop-k l = length (ancestors_of (layers_of l.d l.c) l.at)
