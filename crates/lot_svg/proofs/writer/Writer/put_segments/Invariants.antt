-- The segments that are written, and those that are left, are the whole.
use Rattle.std.proofs.Common.{◌≡◌, ◌≤◌, ◌-◌, drop, length}
use Rattle.lot_svg.specs.PathData.{segments_text}
use Rattle.lot_svg.specs.Written.{append}
use Rattle.lot_svg.proofs.writer.Writer.put_segments.Given as goal

abbrev pub invariant-loop-i : goal.invariant-loop-i
invariant-loop-i l =
    (l.i ≤ length l.segs) × (append l.self (segments_text l.closed l.from (drop l.i l.segs))
    ≡ append l.initial.self (segments_text l.closed l.start l.segs))

abbrev pub decreases-loop-i : goal.decreases-loop-i
decreases-loop-i l = length l.segs - l.i
