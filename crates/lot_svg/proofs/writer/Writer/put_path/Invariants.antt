-- The contours that are written, and those that are left, are the whole.
use Rattle.std.proofs.Common.{◌≡◌, drop}
use Rattle.lot_svg.specs.PathData.{path_text}
use Rattle.lot_svg.specs.Written.{append}
use Rattle.lot_svg.proofs.writer.Writer.put_path.Given as goal

abbrev pub invariant-loop-c : goal.invariant-loop-c
invariant-loop-c l =
    append l.self (path_text (drop l.c-index l.contours)) ≡ append l.initial.self (path_text l.contours)
