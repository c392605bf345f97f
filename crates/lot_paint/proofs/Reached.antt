-- The value at an offset of a list of which the first k stops are reached.
use Rattle.std.proofs.Common.{◌≡◌, ◌^◌, pos, ◌∙◌, ℕ, ℤ, zero, suc, ◌-◌, ◌<◌, ◌==◌, int_lt, Bool, not, cond, true, false, List, [], ◌∷◌, ◌++◌, map, length, get_or, drop, take, filter, refl, ap, sym, subst, take-append-drop, length-take-le, length-drop, get_or-take, get_or-drop, arith}
use Rattle.std.specs.List.{All, range_with_len}
use Rattle.std.proofs.lemmas.List.{get_or_read}
use Rattle.std.proofs.lemmas.List.FromFn.{length-map-range_with_len}
use Rattle.std.proofs.lemmas.List.Elements.{All-head, All-tail}
use Rattle.lot_paint.specs.declared.list_stop.ListStop.{ListStop}
use Rattle.lot_paint.specs.Merging.{IsReached}
use Rattle.lot_paint.specs.Stops.{Interpolation, reached, value_past, value_of_stops, interpolated_color, interpolated_number, color_at, opacity_at, color_stop, color_stops}
use Rattle.lot_types.specs.declared.color.Color.{Color}
use Rattle.lot_types.specs.Ramp.{Ramp}
use Rattle.lot_paint.proofs.Order.{Below, NotAbove}

reached_first : {V : Type 0} (x : ℤ) (s : ListStop V) (stops : List (ListStop V)) → NotAbove s.offset x
    → reached (s ∷ stops) x ≡ suc (reached stops x)
unfolding reached
reached_first x s stops h =
    let rest = filter (λ s. not (int_lt x s.offset)) stops in
    ap (λ (b : Bool). length (cond (not b) (s ∷ rest) rest)) h

not_reached_first : {V : Type 0} (x : ℤ) (s : ListStop V) (stops : List (ListStop V)) → Below x s.offset
    → reached (s ∷ stops) x ≡ reached stops x
unfolding reached
not_reached_first x s stops h =
    let rest = filter (λ s. not (int_lt x s.offset)) stops in
    ap (λ (b : Bool). length (cond (not b) (s ∷ rest) rest)) h

reached_append : {V : Type 0} (x : ℤ) (before after : List (ListStop V)) → All (λ s. NotAbove s.offset x) before
    → All (λ s. Below x s.offset) after → reached (before ++ after) x ≡ length before
unfolding reached
reached_append x [] [] b a = refl
reached_append x [] (s ∷ after) b a =
    not_reached_first x s after (All-head (λ s. Below x s.offset) s after a)
    ∙ reached_append x [] after b (All-tail (λ s. Below x s.offset) s after a)
reached_append x (s ∷ before) after b a =
    reached_first x s (before ++ after) (All-head (λ s. NotAbove s.offset x) s before b)
    ∙ ap suc (reached_append x before after (All-tail (λ s. NotAbove s.offset x) s before b) a)

pub reached_is : {V : Type 0} (stops : List (ListStop V)) (x : ℤ) (k : ℕ) → IsReached stops x k → reached stops x ≡ k
reached_is stops x k h =
    ap (λ l. reached l x) (sym (take-append-drop k stops))
    ∙ reached_append x (take k stops) (drop k stops) h.passed h.ahead
    ∙ length-take-le k stops h.within

-- ---- the value at the offset, by how many stops are reached

pub value_before : {V : Type 0} (interpolate : Interpolation V) (first : ListStop V) (stops : List (ListStop V)) (x : ℤ)
    → IsReached stops x 0 → value_of_stops interpolate first stops x ≡ first.value
value_before interpolate first stops x h = ap (value_past interpolate first stops x) (reached_is stops x 0 h)

pub value_after : {V : Type 0} (interpolate : Interpolation V) (first : ListStop V) (stops : List (ListStop V)) (x : ℤ) (k : ℕ)
    (before : ListStop V) → 0 < k → k ≡ length stops → before ≡ get_or stops (k - 1) before → IsReached stops x k
    → value_of_stops interpolate first stops x ≡ before.value
value_after interpolate first stops x k before some whole at h =
    let last = get_or stops (k - 1) first in
    let next = get_or stops k first in
    let not_none : (k == 0) ≡ false = grind (arith, some) in
    let all : (k == length stops) ≡ true = grind (arith, whole) in
    let lt : k - 1 < length stops = omega (arith, some, whole) in
    ap (value_past interpolate first stops x) (reached_is stops x k h)
    ∙ ap (λ (b : Bool). cond b first.value (cond (k == length stops) last.value
    (interpolate last.offset next.offset x last.value next.value))) not_none
    ∙ ap (λ (b : Bool). cond b last.value (interpolate last.offset next.offset x last.value next.value)) all
    ∙ ap (λ (s : ListStop _). s.value) (sym (get_or_read stops (k - 1) before lt at first))

pub value_inside : {V : Type 0} (interpolate : Interpolation V) (first : ListStop V) (stops : List (ListStop V)) (x : ℤ) (k : ℕ)
    (before next : ListStop V) → 0 < k → k < length stops → before ≡ get_or stops (k - 1) before
    → next ≡ get_or stops k next → IsReached stops x k
    → value_of_stops interpolate first stops x ≡ interpolate before.offset next.offset x before.value next.value
value_inside interpolate first stops x k before next some within at next_at h =
    let last = get_or stops (k - 1) first in
    let after = get_or stops k first in
    let not_none : (k == 0) ≡ false = grind (arith, some) in
    let not_all : (k == length stops) ≡ false = grind (arith, within) in
    let lt : k - 1 < length stops = omega (arith, some, within) in
    ap (value_past interpolate first stops x) (reached_is stops x k h)
    ∙ ap (λ (b : Bool). cond b first.value (cond (k == length stops) last.value
    (interpolate last.offset after.offset x last.value after.value))) not_none
    ∙ ap (λ (b : Bool). cond b last.value (interpolate last.offset after.offset x last.value after.value)) not_all
    ∙ ap (λ (s : ListStop _). interpolate s.offset after.offset x s.value after.value)
    (sym (get_or_read stops (k - 1) before lt at first))
    ∙ ap (λ (s : ListStop _). interpolate before.offset s.offset x before.value s.value)
    (sym (get_or_read stops k next within next_at first))

-- The offset is not below that of the last stop that is reached.
pub past_before : {V : Type 0} (stops : List (ListStop V)) (x : ℤ) (k : ℕ) (before : ListStop V) → 0 < k
    → before ≡ get_or stops (k - 1) before → IsReached stops x k → NotAbove before.offset x
past_before stops x k before some at h =
    let below : k - 1 < k = omega (arith, some) in
    let lt = subst (λ (n : ℕ). k - 1 < n) (sym (length-take-le k stops h.within)) below in
    subst (λ (s : ListStop _). NotAbove s.offset x) (get_or-take k stops (k - 1) before below ∙ sym at)
    (h.passed (k - 1) before lt)

-- It is below that of the next one.
pub below_next : {V : Type 0} (stops : List (ListStop V)) (x : ℤ) (k : ℕ) (next : ListStop V) → k < length stops
    → next ≡ get_or stops k next → IsReached stops x k → Below x next.offset
below_next stops x k next within at h =
    let lt = subst (λ (n : ℕ). 0 < n) (sym (length-drop k stops)) (omega (arith, within)) in
    let here = ap (λ (n : ℕ). get_or stops n next) (omega arith) in
    subst (λ (s : ListStop _). Below x s.offset) (get_or-drop k stops 0 next ∙ here ∙ sym at) (h.ahead 0 next lt)

-- The first color stop of a gradient.
first_of : (f : ℕ → ListStop Color) (n : ℕ) → 0 < length (map f (range_with_len 0 n))
    → map f (range_with_len 0 n) ≡ f 0 ∷ drop 1 (map f (range_with_len 0 n))
first_of f zero some = absurd (omega (arith, some))
first_of f (suc n) some = refl

pub first_color : (g : Ramp) → 0 < length (color_stops g)
    → color_stops g ≡ color_stop g.flat 0 ∷ drop 1 (color_stops g)
unfolding color_stops
first_color g some = first_of (color_stop g.flat) g.stops some

pub some_colors : (g : Ramp) → 0 < g.stops → 0 < length (color_stops g)
unfolding color_stops
some_colors g some = subst (λ (n : ℕ). 0 < n) (sym (length-map-range_with_len (color_stop g.flat) 0 g.stops)) some

pub color_at_is : (g : Ramp) (colors : List (ListStop Color)) (x : ℤ) (color : Color) → 0 < length colors
    → colors ≡ color_stops g
    → ((first : ListStop Color) (more : List (ListStop Color)) → colors ≡ first ∷ more
    → color ≡ value_of_stops interpolated_color first colors x)
    → color ≡ color_at g x
unfolding color_at
color_at_is g colors x color some is h =
    let some_made = subst (λ (l : List (ListStop Color)). 0 < length l) is some in
    h (color_stop g.flat 0) (drop 1 (color_stops g)) (is ∙ first_color g some_made)
    ∙ ap (λ (l : List (ListStop Color)). value_of_stops interpolated_color (color_stop g.flat 0) l x) is

-- The stop that is read at the index 0 is the first.
pub first_is : {V : Type 0} (stops : List (ListStop V)) (s first : ListStop V) (more : List (ListStop V))
    → s ≡ get_or stops 0 s → stops ≡ first ∷ more → s ≡ first
first_is stops s first more at is = at ∙ ap (λ (l : List (ListStop _)). get_or l 0 s) is

pub opacity_none : (stops : List (ListStop ℤ)) (x : ℤ) → length stops ≡ 0 → pos (10 ^ 6) ≡ opacity_at stops x
unfolding opacity_at
opacity_none [] x none = refl
opacity_none (s ∷ stops) x none = absurd (omega (arith, none))

pub opacity_value : (stops : List (ListStop ℤ)) (x : ℤ) (s : ListStop ℤ) → 0 < length stops
    → value_of_stops interpolated_number (get_or stops 0 s) stops x ≡ opacity_at stops x
unfolding opacity_at
opacity_value [] x s some = absurd (omega (arith, some))
opacity_value (first ∷ stops) x s some = refl
