-- Numbers. They are millionths, and one that is beyond ten million either way is out of every range.
use Rattle.std.specs.Prelude.{ℤ, pos, Bool, true, int_le, int_lt, List, if◌then◌else◌}
use Rattle.lot_types.specs.declared.fault.FaultCode.TheVariants.{Kind, Range}
use Rattle.lot_json.specs.declared.tree.number.Number.{Number}
use Rattle.lot_json.specs.declared.tree.number.Number.TheVariants.{Micro, Beyond}
use Rattle.lot_json.specs.declared.tree.json.Json.{out-Json}
use Rattle.lot_json.specs.declared.tree.json.Json.TheOpen as tree
use Rattle.lot_json.specs.declared.tree.pointer.Step.{Step}
use Rattle.lot_read.specs.declared.number.NumberValue.{NumberValue}
use Rattle.lot_read.specs.declared.number.NumberValue.TheVariants as value
use Rattle.lot_read.specs.Findings.{Findings, Reader, good, bad}
use Rattle.lot_read.specs.Lists.{value_or_first}

-- The ranges of numbers.
abbrev pub any : ℤ → Bool
any z = true

abbrev pub not_below_zero : ℤ → Bool
not_below_zero z = int_le (pos 0) z

abbrev pub above_zero : ℤ → Bool
above_zero z = int_lt (pos 0) z

-- The range of each reader of numbers.
abbrev pub range_of : NumberValue → ℤ → Bool
range_of value.Any = any
range_of value.NotBelowZero = not_below_zero
range_of value.AboveZero = above_zero

abbrev pub in_range : (ℤ → Bool) → List Step → Number → Findings ℤ
in_range fits at (Micro z) = if fits z then good z else bad Range at
in_range fits at Beyond = bad Range at

-- A number of a range.
unfoldable pub number : (ℤ → Bool) → Reader ℤ
number fits at j = elim (out-Json j) [ tree.Number n ↦ in_range fits at n | _ ↦ bad Kind at ]

-- A scalar: a number, or a list whose first item is one.
abbrev pub scalar : Reader ℤ
scalar = value_or_first (number any)
