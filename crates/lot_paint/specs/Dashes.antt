-- The dash pattern of a stroke, after the Lottie Specification 1.0, "Stroke Dash", and SVG 1.1, "Stroke Properties".
use Rattle.std.specs.Prelude.{ℤ, pos, int_lt, Bool, true, false, List, [], map, reverse, filter, find, Option, Some, None, option_map, if◌then◌else◌}
use Rattle.std.specs.List.{list_any}
use Rattle.lot_prop.specs.Slots.{scalar_value}
use Rattle.lot_types.specs.declared.dash.Dash.{Dash}
use Rattle.lot_types.specs.declared.dash.DashKind.{DashKind}
use Rattle.lot_types.specs.declared.dash.DashKind.TheVariants as kind
use Rattle.lot_types.specs.declared.doc.Doc.{Doc}
use Rattle.lot_types.specs.Options.{all_present}
use Rattle.lot_paint.specs.declared.dashes.Pattern.{Pattern}

-- The nearest number to x that is not below a limit.
abbrev pub at_least : ℤ → ℤ → ℤ
at_least least x = if int_lt x least then least else x

-- A number of a pattern is the length of a dash or of a gap, or else an offset.
abbrev pub is_length_kind : DashKind → Bool
is_length_kind kind.Dash = true
is_length_kind kind.Gap = true
is_length_kind kind.Offset = false

abbrev pub is_length : Dash → Bool
is_length dash = is_length_kind dash.n

abbrev pub is_offset_kind : DashKind → Bool
is_offset_kind kind.Dash = false
is_offset_kind kind.Gap = false
is_offset_kind kind.Offset = true

abbrev pub is_offset : Dash → Bool
is_offset dash = is_offset_kind dash.n

-- A length at a time: 0 for one that is negative.
abbrev pub length_value : Doc → ℤ → Dash → Option ℤ
length_value d t dash = option_map (at_least (pos 0)) (scalar_value d dash.v t)

-- The lengths of dashes and gaps, in order.
abbrev pub lengths_value : Doc → ℤ → List Dash → Option (List ℤ)
lengths_value d t dashes = all_present (map (length_value d t) (filter is_length dashes))

-- The last offset.
abbrev pub last_offset : List Dash → Option Dash
last_offset dashes = find is_offset (reverse dashes)

-- Its value, where the pattern has an offset.
abbrev pub value_if_any : Doc → ℤ → Option Dash → Option (Option ℤ)
value_if_any d t None = Some None
value_if_any d t (Some dash) = option_map Some (scalar_value d dash.v t)

abbrev pub offset_value : Doc → ℤ → List Dash → Option (Option ℤ)
offset_value d t dashes = value_if_any d t (last_offset dashes)

-- A line without dashes.
abbrev pub whole_line : Pattern
whole_line = record { lengths = []; offset = None }

-- A pattern in which no length is above 0 is a line without dashes.
abbrev pub drawn_pattern : List ℤ → Option ℤ → Pattern
drawn_pattern lengths offset =
    if list_any (int_lt (pos 0)) lengths then record { lengths = lengths; offset = offset } else whole_line

abbrev pub pattern_with : Option (List ℤ) → Option (Option ℤ) → Option Pattern
pattern_with (Some lengths) (Some offset) = Some (drawn_pattern lengths offset)
pattern_with (Some lengths) None = None
pattern_with None offset = None

-- The pattern at a time.
abbrev pub pattern_value : Doc → ℤ → List Dash → Option Pattern
pattern_value d t dashes = pattern_with (lengths_value d t dashes) (offset_value d t dashes)
