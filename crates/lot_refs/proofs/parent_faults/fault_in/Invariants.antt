use Rattle.std.proofs.Common.{◌≡◌, drop}
use Rattle.lot_refs.specs.RefFaults.{faults_from, comp_faults}
use Rattle.lot_refs.proofs.parent_faults.fault_in.Given as goal

-- The layers before this one have no fault.
abbrev pub invariant-loop-l : goal.invariant-loop-l
invariant-loop-l v = faults_from v.c v.layers v.l (drop v.l v.layers) ≡ comp_faults v.c v.layers
