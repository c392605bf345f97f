-- The stops of a gradient, after the Lottie Specification 1.0, "Gradient". Their limits, the values between them and
-- the order of both lists in one are this project's own. Offsets, colors and opacities are from 0 to 10^6.
use Rattle.std.specs.Prelude.{ℕ, ℤ, pos, ◌+◌, ◌-◌, ◌*◌, ◌/◌, ◌^◌, ◌==◌, ◌-ℤ◌, int_lt, Bool, not, List, [], ◌∷◌, ◌++◌, length, map, filter, fold, get_or, if◌then◌else◌}
use Rattle.std.specs.List.{list_any, range_with_len}
use Rattle.std.specs.Ordering.{int_eq}
use Rattle.lot_num.specs.Easing.{between}
use Rattle.lot_types.specs.declared.color.Color.{Color}
use Rattle.lot_types.specs.declared.stop.Stop.{Stop}
use Rattle.lot_types.specs.Ramp.{Ramp}
use Rattle.lot_paint.specs.declared.list_stop.ListStop.{ListStop}
use Rattle.lot_paint.specs.Color.{component_in_range, rgb_of}
use Rattle.lot_paint.specs.Dashes.{at_least}

-- ---- the two lists

-- The number at an index, limited to 0 to 1.
abbrev pub number_at : List ℤ → ℕ → ℤ
number_at flat i = component_in_range (get_or flat i (pos 0))

-- The greatest offset of the first n stops of a list that begins at an index and has `size` numbers a stop.
unfoldable pub greatest_offset : List ℤ → ℕ → ℕ → ℕ → ℤ
greatest_offset flat start size n =
    fold at_least (pos 0) (map (λ j. number_at flat (start + size * j)) (range_with_len 0 n))

-- The offset of the stop after the first k. One below an offset before it is raised to the greatest of these.
abbrev pub raised_offset : List ℤ → ℕ → ℕ → ℕ → ℤ
raised_offset flat start size k = greatest_offset flat start size (k + 1)

-- A color stop has an offset, red, green and blue.
abbrev pub color_numbers : ℕ
color_numbers = 4

-- The color whose red is at an index, with its green and blue after it.
abbrev pub color_from : List ℤ → ℕ → Color
color_from flat i = record { r = number_at flat i; g = number_at flat (i + 1); b = number_at flat (i + 2) }

unfoldable pub color_stop : List ℤ → ℕ → ListStop Color
color_stop flat k = record {
  offset = raised_offset flat 0 color_numbers k;
  value = color_from flat (color_numbers * k + 1);
}

-- An opacity stop has an offset and an opacity. The first one begins at an index of the list.
abbrev pub opacity_numbers : ℕ
opacity_numbers = 2

unfoldable pub opacity_stop : List ℤ → ℕ → ℕ → ListStop ℤ
opacity_stop flat start k = record {
  offset = raised_offset flat start opacity_numbers k;
  value = number_at flat (start + opacity_numbers * k + 1);
}

unfoldable pub color_stops : Ramp → List (ListStop Color)
color_stops g = map (color_stop g.flat) (range_with_len 0 g.stops)

-- How many numbers the color stops have. Those after them are of opacity stops.
abbrev pub numbers_of_colors : Ramp → ℕ
numbers_of_colors g = color_numbers * g.stops

unfoldable pub opacity_stops : Ramp → List (ListStop ℤ)
opacity_stops g =
    map (opacity_stop g.flat (numbers_of_colors g))
    (range_with_len 0 ((length g.flat - numbers_of_colors g) / opacity_numbers))

-- ---- the value at an offset

-- The value at the offset x, where v is that at the offset `low` and w that at the offset `high`.
abbrev pub Interpolation : Type 0 → Type 0
Interpolation V = ℤ → ℤ → ℤ → V → V → V

unfoldable pub interpolated_number : Interpolation ℤ
interpolated_number low high x v w = between v w (x -ℤ low) (high -ℤ low)

abbrev pub interpolated_color : Interpolation Color
interpolated_color low high x v w = record {
  r = interpolated_number low high x v.r w.r;
  g = interpolated_number low high x v.g w.g;
  b = interpolated_number low high x v.b w.b;
}

-- How many stops are not above the offset x. They are the first ones, since offsets do not fall.
unfoldable pub reached : {V : Type 0} → List (ListStop V) → ℤ → ℕ
reached stops x = length (filter (λ s. not (int_lt x s.offset)) stops)

-- The value at the offset x, which the first k stops do not pass, and which lies before the next.
abbrev pub value_past : {V : Type 0} → Interpolation V → ListStop V → List (ListStop V) → ℤ → ℕ → V
value_past interpolate first stops x k =
    let before = get_or stops (k - 1) first in
    let next = get_or stops k first in
    if k == 0 then first.value
    else if k == length stops then before.value
    else interpolate before.offset next.offset x before.value next.value

-- The value of a list, whose first stop this is, at the offset x.
abbrev pub value_of_stops : {V : Type 0} → Interpolation V → ListStop V → List (ListStop V) → ℤ → V
value_of_stops interpolate first stops x = value_past interpolate first stops x (reached stops x)

unfoldable pub color_at : Ramp → ℤ → Color
color_at g x = value_of_stops interpolated_color (color_stop g.flat 0) (color_stops g) x

-- Without opacity stops the opacity is 1.
unfoldable pub opacity_at : List (ListStop ℤ) → ℤ → ℤ
opacity_at [] x = pos (10 ^ 6)
opacity_at (s ∷ ss) x = value_of_stops interpolated_number s (s ∷ ss) x

-- ---- both lists in one

abbrev pub stop_of_color : List (ListStop ℤ) → ListStop Color → Stop
stop_of_color opacities s = record { offset = s.offset; rgb = rgb_of s.value; alpha = opacity_at opacities s.offset }

abbrev pub stop_of_opacity : Ramp → ListStop ℤ → Stop
stop_of_opacity g s = record { offset = s.offset; rgb = rgb_of (color_at g s.offset); alpha = s.value }

-- Whether some color stop has the offset x.
abbrev pub has_color_at : Ramp → ℤ → Bool
has_color_at g x = list_any (λ c. int_eq c.offset x) (color_stops g)

-- A stop before the first one of a list whose offset is not below its own.
unfoldable pub put_by_offset : Stop → List Stop → List Stop
put_by_offset s [] = s ∷ []
put_by_offset s (next ∷ more) = if int_lt next.offset s.offset then next ∷ put_by_offset s more else s ∷ next ∷ more

-- Stops in order of their offsets, and those of one offset in the order of the list.
unfoldable pub by_offset : List Stop → List Stop
by_offset [] = []
by_offset (s ∷ more) = put_by_offset s (by_offset more)

-- The stops of a gradient: all color stops, and those opacity stops at whose offset there is no color stop, in order of
-- their offsets.
unfoldable pub merged_stops : Ramp → List Stop
merged_stops g =
    by_offset (map (stop_of_color (opacity_stops g)) (color_stops g)
    ++ map (stop_of_opacity g) (filter (λ s. not (has_color_at g s.offset)) (opacity_stops g)))
