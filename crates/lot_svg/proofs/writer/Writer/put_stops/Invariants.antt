-- The stops that are written, and those that are left, are the whole.
use Rattle.std.proofs.Common.{◌≡◌, drop, flat_map}
use Rattle.lot_svg.specs.Paint.{stop_text}
use Rattle.lot_svg.specs.Written.{append}
use Rattle.lot_svg.proofs.writer.Writer.put_stops.Given as goal

abbrev pub invariant-loop-s : goal.invariant-loop-s
invariant-loop-s l =
    append l.self (flat_map stop_text (drop l.s-index l.stops)) ≡ append l.initial.self (flat_map stop_text l.stops)
