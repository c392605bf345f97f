-- The colors of gradients, after the Lottie Specification 1.0, "Gradient".
use Rattle.std.specs.Prelude.{ℕ, ◌-◌, ◌*◌, ◌%◌, ◌==◌, ◌||◌, Bool, false, not, nat_lt, List, Option, Some, None, if◌then◌else◌}
use Rattle.lot_types.specs.declared.fault.FaultCode.TheVariants.{Count}
use Rattle.lot_types.specs.Ramp.{Ramp}
use Rattle.lot_json.specs.declared.tree.pointer.Step.{Step}
use Rattle.lot_read.specs.Findings.{Findings, Reader, good, bad, ◌⊛◌, ◌also◌}
use Rattle.lot_read.specs.Lists.{list, length_of}
use Rattle.lot_types.specs.Limits.{max_list_items}
use Rattle.lot_read.specs.Number.{any, number}

-- Each stop has an offset and three parts of a color.
abbrev pub stop_numbers : ℕ
stop_numbers = 4

abbrev pub miscounted : ℕ → Option ℕ → Bool
miscounted stops (Some n) = nat_lt n (stop_numbers * stops) || not ((n - stop_numbers * stops) % 2 == 0)
miscounted stops None = false

-- A list has four numbers for each stop, and after them pairs of an offset and an opacity.
unfoldable pub counted : ℕ → List Step → Option ℕ → Findings (Unit {0})
counted stops at numbers = if miscounted stops numbers then bad Count at else good tt

-- The colors of a gradient with this number of stops: a list of numbers.
unfoldable pub gradient : ℕ → Reader Ramp
gradient stops at j =
    good (λ flat. record { stops = stops; flat = flat })
    ⊛ list max_list_items (number any) at j
    also counted stops at (length_of j)
