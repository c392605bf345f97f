use Rattle.std.proofs.Common.{◌≡◌, ◌≤◌, ◌*◌, ◌-◌, ◌+◌, length}
use Rattle.lot_refs.specs.Links.{IsJump}
use Rattle.lot_refs.proofs.links.jump.Given as goal

abbrev pub invariant-loop-steps : goal.invariant-loop-steps
invariant-loop-steps l =
    record {
      jump : IsJump l.links l.steps l.far.items;
      len : length l.far.items ≡ length l.links;
      some : 1 ≤ l.steps;
      small : l.steps ≤ 2 * length l.links + 1;
    }

abbrev pub decreases-loop-steps : goal.decreases-loop-steps
decreases-loop-steps l = length l.links + 1 - l.steps
