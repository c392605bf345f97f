-- The lengths that are written, and those that are left, are the whole.
use Rattle.std.proofs.Common.{◌≡◌, drop}
use Rattle.lot_svg.specs.Paint.{more_lengths_text}
use Rattle.lot_svg.specs.Written.{append}
use Rattle.lot_svg.proofs.writer.Writer.put_more_lengths.Given as goal

abbrev pub invariant-loop-length : goal.invariant-loop-length
invariant-loop-length l =
    append l.self (more_lengths_text (drop l.length-index l.lengths))
    ≡ append l.initial.self (more_lengths_text l.lengths)
