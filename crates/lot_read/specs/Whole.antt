-- Whole numbers of a small range, as the codes of choices.
use Rattle.std.specs.Prelude.{ℕ, ℤ, pos, negsuc, ◌/◌, ◌%◌, ◌^◌, ◌==◌, ◌&&◌, nat_le, List, Option, Some, None, if◌then◌else◌}
use Rattle.lot_types.specs.declared.fault.FaultCode.TheVariants.{Value}
use Rattle.lot_json.specs.declared.tree.pointer.Step.{Step}
use Rattle.lot_read.specs.Findings.{Findings, Reader, good, bad, ◌>>=◌, ◌then◌}
use Rattle.lot_read.specs.Number.{any, number}

-- The whole number of millionths, where it is one that is not below 0.
abbrev pub whole_number : ℤ → Option ℕ
whole_number (pos n) = if n % 10 ^ 6 == 0 then Some (n / 10 ^ 6) else None
whole_number (negsuc n) = None

-- The number where it is from `low` to `high`, both included.
abbrev pub where_between : ℕ → ℕ → ℕ → Option ℕ
where_between low high n = if nat_le low n && nat_le n high then Some n else None

abbrev pub allowed : ℕ → ℕ → ℤ → Option ℕ
allowed low high z = whole_number z >>= where_between low high

abbrev pub allowed_or_refused : List Step → Option ℕ → Findings ℕ
allowed_or_refused at (Some n) = good n
allowed_or_refused at None = bad Value at

-- A whole number from `low` to `high`, both included.
unfoldable pub whole : ℕ → ℕ → Reader ℕ
whole low high at j = number any at j then λ z. allowed_or_refused at (allowed low high z)
