-- The stops before this one are made, and the offset is the greatest of theirs.
use Rattle.std.proofs.Common.{◌≡◌, map}
use Rattle.std.specs.List.{range_with_len}
use Rattle.lot_paint.specs.Stops.{color_stop, greatest_offset, color_numbers}
use Rattle.lot_paint.proofs.list_stop.color_stops.Given as goal

abbrev pub invariant-loop-k : goal.invariant-loop-k
invariant-loop-k l = record {
  made : l.made ≡ map (color_stop l.g.flat) (range_with_len 0 l.k);
  offset : l.offset ≡ greatest_offset l.g.flat 0 color_numbers l.k;
}
