-- The offsets of a list do not fall.
use Rattle.std.proofs.Common.{◌≡◌, ◌∙◌, ℕ, ℤ, zero, suc, ◌+◌, ◌*◌, ◌-◌, ◌/◌, pos, List, [], ◌∷◌, ◌++◌, map, length, drop, fold, refl, ap, ap₂, sym, subst, arith}
use Rattle.std.specs.List.{All, range_with_len}
use Rattle.std.proofs.lemmas.List.Elements.{All-nil, All-cons}
use Rattle.std.proofs.lemmas.List.FromFn.{map-range_with_len_more}
use Rattle.std.proofs.lemmas.List.Sums.{fold-append}
use Rattle.lot_types.specs.declared.color.Color.{Color}
use Rattle.lot_types.specs.Ramp.{Ramp}
use Rattle.lot_paint.specs.Dashes.{at_least}
use Rattle.lot_paint.specs.declared.list_stop.ListStop.{ListStop}
use Rattle.lot_paint.specs.Stops.{number_at, color_from, greatest_offset, color_stop, opacity_stop, color_stops, opacity_stops, color_numbers, opacity_numbers, numbers_of_colors}
use Rattle.lot_paint.proofs.Order.{NotAbove, not_above_trans, at_least_keeps}

-- No stop of a list is above one after it.
abbrev pub NotFalling : {V : Type 0} → List (ListStop V) → Type 0
NotFalling [] = Unit {0}
NotFalling (s ∷ stops) = All (λ t. NotAbove s.offset t.offset) stops × NotFalling stops

pub not_falling_drop : {V : Type 0} (stops : List (ListStop V)) (k : ℕ) → NotFalling stops → NotFalling (drop k stops)
not_falling_drop stops zero h = h
not_falling_drop [] (suc k) h = tt
not_falling_drop (s ∷ stops) (suc k) h = not_falling_drop stops k h.1

pub greatest_more : (flat : List ℤ) (start size n : ℕ)
    → greatest_offset flat start size (n + 1) ≡ at_least (greatest_offset flat start size n) (number_at flat (start + size * n))
unfolding greatest_offset
greatest_more flat start size n =
    let number = λ (j : ℕ). number_at flat (start + size * j) in
    ap (fold at_least (pos 0)) (map-range_with_len_more number 0 n n (omega arith))
    ∙ fold-append at_least (pos 0) (map number (range_with_len 0 n)) (number n ∷ [])

greatest_keeps : (flat : List ℤ) (start size n : ℕ)
    → NotAbove (greatest_offset flat start size n) (greatest_offset flat start size (n + 1))
greatest_keeps flat start size n =
    subst (NotAbove (greatest_offset flat start size n)) (sym (greatest_more flat start size n))
    (at_least_keeps (greatest_offset flat start size n) (number_at flat (start + size * n)))

Rising : {V : Type 0} → (ℕ → ListStop V) → Type 0
Rising f = (k : ℕ) → NotAbove (f k).offset (f (k + 1)).offset

all_from : {V : Type 0} (f : ℕ → ListStop V) → Rising f → (x : ℤ) (a n : ℕ) → NotAbove x (f a).offset
    → All (λ t. NotAbove x t.offset) (map f (range_with_len a n))
unfolding Rising
all_from f rises x a zero h = All-nil (λ t. NotAbove x t.offset)
all_from f rises x a (suc n) h =
    All-cons (λ t. NotAbove x t.offset) (f a) (map f (range_with_len (a + 1) n)) h
    (all_from f rises x (a + 1) n (not_above_trans x (f a).offset (f (a + 1)).offset h (rises a)))

not_falling_map : {V : Type 0} (f : ℕ → ListStop V) → Rising f → (a n : ℕ) → NotFalling (map f (range_with_len a n))
unfolding Rising
not_falling_map f rises a zero = tt
not_falling_map f rises a (suc n) = (all_from f rises (f a).offset (a + 1) n (rises a), not_falling_map f rises (a + 1) n)

pub colors_not_falling : (g : Ramp) → NotFalling (color_stops g)
unfolding color_stops color_stop Rising
colors_not_falling g = not_falling_map (color_stop g.flat) (λ k. greatest_keeps g.flat 0 color_numbers (k + 1)) 0 g.stops

pub opacities_not_falling : (g : Ramp) → NotFalling (opacity_stops g)
unfolding opacity_stops opacity_stop Rising
opacities_not_falling g =
    let start = numbers_of_colors g in
    not_falling_map (opacity_stop g.flat start) (λ k. greatest_keeps g.flat start opacity_numbers (k + 1)) 0
    ((length g.flat - start) / opacity_numbers)

-- ---- the lists, one stop after the other

pub greatest_none : (flat : List ℤ) (start size : ℕ) → pos 0 ≡ greatest_offset flat start size 0
unfolding greatest_offset
greatest_none flat start size = refl

pub color_made : (flat : List ℤ) (k : ℕ) (made : List (ListStop Color)) (offset : ℤ) (value : Color)
    → made ≡ map (color_stop flat) (range_with_len 0 k) → offset ≡ greatest_offset flat 0 color_numbers (k + 1)
    → value ≡ color_from flat (color_numbers * k + 1)
    → made ++ record { offset = offset; value = value } ∷ [] ≡ map (color_stop flat) (range_with_len 0 (k + 1))
unfolding color_stop
color_made flat k made offset value h offset_is value_is =
    ap₂ (λ (x : ℤ) (v : Color). made ++ record { offset = x; value = v } ∷ []) offset_is value_is
    ∙ ap (λ (l : List (ListStop Color)). l ++ color_stop flat k ∷ []) h
    ∙ sym (map-range_with_len_more (color_stop flat) 0 k k (omega arith))

pub opacity_made : (flat : List ℤ) (start k : ℕ) (made : List (ListStop ℤ)) (offset value : ℤ)
    → made ≡ map (opacity_stop flat start) (range_with_len 0 k)
    → offset ≡ greatest_offset flat start opacity_numbers (k + 1)
    → value ≡ number_at flat (start + opacity_numbers * k + 1)
    → made ++ record { offset = offset; value = value } ∷ [] ≡ map (opacity_stop flat start) (range_with_len 0 (k + 1))
unfolding opacity_stop
opacity_made flat start k made offset value h offset_is value_is =
    ap₂ (λ (x : ℤ) (v : ℤ). made ++ record { offset = x; value = v } ∷ []) offset_is value_is
    ∙ ap (λ (l : List (ListStop ℤ)). l ++ opacity_stop flat start k ∷ []) h
    ∙ sym (map-range_with_len_more (opacity_stop flat start) 0 k k (omega arith))

pub colors_made : (g : Ramp) (n : ℕ) (made : List (ListStop Color)) → made ≡ map (color_stop g.flat) (range_with_len 0 n)
    → n ≡ g.stops → made ≡ color_stops g
unfolding color_stops
colors_made g n made h is = h ∙ ap (λ (m : ℕ). map (color_stop g.flat) (range_with_len 0 m)) is

pub opacities_made : (g : Ramp) (n : ℕ) (made : List (ListStop ℤ))
    → made ≡ map (opacity_stop g.flat (numbers_of_colors g)) (range_with_len 0 n)
    → n ≡ (length g.flat - numbers_of_colors g) / opacity_numbers → made ≡ opacity_stops g
unfolding opacity_stops
opacities_made g n made h is =
    h ∙ ap (λ (m : ℕ). map (opacity_stop g.flat (numbers_of_colors g)) (range_with_len 0 m)) is
