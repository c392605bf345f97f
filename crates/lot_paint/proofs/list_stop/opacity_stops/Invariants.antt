-- The stops before this one are made, and the offset is the greatest of theirs.
use Rattle.std.proofs.Common.{◌≡◌, map}
use Rattle.std.specs.List.{range_with_len}
use Rattle.lot_paint.specs.Stops.{opacity_stop, greatest_offset, opacity_numbers, numbers_of_colors}
use Rattle.lot_paint.proofs.list_stop.opacity_stops.Given as goal

abbrev pub invariant-loop-k : goal.invariant-loop-k
invariant-loop-k l = record {
  made : l.made ≡ map (opacity_stop l.g.flat (numbers_of_colors l.g)) (range_with_len 0 l.k);
  offset : l.offset ≡ greatest_offset l.g.flat (numbers_of_colors l.g) opacity_numbers l.k;
}
