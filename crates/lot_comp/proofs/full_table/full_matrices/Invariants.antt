use Rattle.std.proofs.Common.{◌≡◌, take, map, Some}
use Rattle.lot_comp.proofs.full_table.full_matrices.Given as goal

abbrev pub invariant-loop-m : goal.invariant-loop-m
invariant-loop-m l = map Some l.ms ≡ take l.m-index l.m-items
