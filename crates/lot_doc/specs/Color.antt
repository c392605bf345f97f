-- Colors of solid layers, after the Lottie Specification 1.0, "Hex Color".
use Rattle.std.specs.Prelude.{◌==◌, ℕ, ◌*◌, ◌+◌, ◌-◌, ◌&&◌, nat_le, List, [], ◌∷◌, Option, Some, None, if◌then◌else◌}
use Rattle.lot_types.specs.declared.fault.FaultCode.TheVariants.{Kind, Value}
use Rattle.lot_types.specs.declared.rgb.Rgb.{Rgb}
use Rattle.lot_json.specs.Bytes.{digit_0, digit_9, upper_a, upper_f, lower_a, lower_f}
use Rattle.lot_json.specs.declared.tree.json.Json.{out-Json}
use Rattle.lot_json.specs.declared.tree.json.Json.TheOpen as tree
use Rattle.lot_json.specs.declared.tree.pointer.Step.{Step}
use Rattle.lot_read.specs.Findings.{Findings, Reader, good, bad, ◌>>=◌}

-- The byte of '#'.
abbrev pub hash : ℕ
hash = 35

-- A hexadecimal digit of either case.
abbrev pub hex_digit : ℕ → Option ℕ
hex_digit c =
    if nat_le digit_0 c && nat_le c digit_9 then Some (c - digit_0)
    else if nat_le upper_a c && nat_le c upper_f then Some (10 + (c - upper_a))
    else if nat_le lower_a c && nat_le c lower_f then Some (10 + (c - lower_a))
    else None

abbrev pub hex_byte : ℕ → ℕ → Option ℕ
hex_byte high low = hex_digit high >>= λ h. hex_digit low >>= λ l. Some (16 * h + l)

-- A color: '#' and six hexadecimal digits. Nothing else is one.
unfoldable pub color_of : List ℕ → Option Rgb
color_of (first ∷ a ∷ b ∷ c ∷ d ∷ e ∷ f ∷ []) =
    if first == hash then (hex_byte a b >>= λ r. hex_byte c d >>= λ g. hex_byte e f >>= λ b.
    Some (record { r = r; g = g; b = b }))
    else None
color_of _ = None

abbrev pub good_or_value : {A : Type 0} → List Step → Option A → Findings A
good_or_value at (Some x) = good x
good_or_value at None = bad Value at

-- The color of a text.
unfoldable pub hex_color : Reader Rgb
hex_color at j = elim (out-Json j) [ tree.Text t ↦ good_or_value at (color_of t) | _ ↦ bad Kind at ]
