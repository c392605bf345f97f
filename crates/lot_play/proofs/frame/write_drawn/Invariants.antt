-- The drawn layers before this one are still to be written.
use Rattle.std.proofs.Common.{◌≡◌, ◌≤◌, ◌+◌, length, take, reverse}
use Rattle.lot_comp.specs.Frame.{nodes, frame}
use Rattle.lot_play.specs.Walk.{after_frame}
use Rattle.lot_types.specs.Frame.{visits}
use Rattle.lot_types.specs.Limits.{max_layers}
use Rattle.lot_play.proofs.frame.write_drawn.Given as goal

abbrev pub invariant-loop-i : goal.invariant-loop-i
invariant-loop-i g l =
    record {
      within : l.i ≤ length l.drawn;
      left : after_frame l.d (nodes l.d l.c l.t (reverse (take l.i l.drawn))) l.w ≡ after_frame l.d (frame l.d l.c l.t) l.fn.w;
      evaluated : l.steps + length (visits (nodes l.d l.c l.t (reverse (take l.i l.drawn)))) ≤ l.fn.steps + length (visits (frame l.d l.c l.t));
      counted : l.steps + l.i ≤ l.fn.steps + max_layers;
    }

abbrev pub decreases-loop-i : goal.decreases-loop-i
decreases-loop-i g l = l.i
