use Rattle.std.proofs.Common.{◌≡◌, drop}
use Rattle.lot_refs.specs.RefFaults.{comp_faults_from, parent_faults}
use Rattle.lot_refs.proofs.parent_faults.find_fault.Given as goal

-- The compositions before this one have no fault.
abbrev pub invariant-loop-c : goal.invariant-loop-c
invariant-loop-c v = comp_faults_from v.c (drop v.c v.comps) ≡ parent_faults v.comps
