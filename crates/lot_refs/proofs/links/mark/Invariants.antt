use Rattle.std.proofs.Common.{◌≡◌, ◌<◌, ℕ, length, get_or, take, false}
use Rattle.std.specs.List.{list_any}
use Rattle.lot_refs.specs.Links.{leads_to}
use Rattle.lot_refs.proofs.links.mark.Given as goal

-- Each place is marked that a link up to here leads to.
abbrev pub invariant-loop-at : goal.invariant-loop-at
invariant-loop-at l =
    record {
      len : length l.marks.items ≡ length l.links;
      marks : (k : ℕ) → k < length l.links
          → get_or l.marks.items k false ≡ list_any (leads_to k) (take l.at-index l.links);
    }
