-- Flags.
use Rattle.std.specs.Prelude.{pos, Bool, not, List, if◌then◌else◌}
use Rattle.std.specs.Ordering.{int_eq}
use Rattle.lot_types.specs.declared.fault.FaultCode.TheVariants.{Kind, Range, Unsupported}
use Rattle.lot_json.specs.declared.tree.number.Number.{Number}
use Rattle.lot_json.specs.declared.tree.number.Number.TheVariants.{Micro, Beyond}
use Rattle.lot_json.specs.declared.tree.json.Json.{out-Json}
use Rattle.lot_json.specs.declared.tree.json.Json.TheOpen as tree
use Rattle.lot_json.specs.declared.tree.pointer.Step.{Step}
use Rattle.lot_read.specs.Findings.{Findings, Reader, good, bad, ◌then◌}

abbrev pub is_not_zero : List Step → Number → Findings Bool
is_not_zero at (Micro z) = good (not (int_eq z (pos 0)))
is_not_zero at Beyond = bad Range at

-- A flag: true, false, or a number, which is true where it is not 0.
unfoldable pub flag : Reader Bool
flag at j = elim (out-Json j) [ tree.Bool b ↦ good b | tree.Number n ↦ is_not_zero at n | _ ↦ bad Kind at ]

-- The flag of a feature that is left out.
unfoldable pub unset : Reader Bool
unset at j = flag at j then λ b. if b then bad Unsupported at else good b
