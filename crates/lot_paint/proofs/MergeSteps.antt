-- The steps by which both lists of stops are put into one.
use Rattle.std.proofs.Common.{Less, Greater, Equal, ◌≡◌, ◌∙◌, ℕ, ℤ, ◌+◌, ◌<◌, ◌≤◌, List, [], ◌∷◌, ◌++◌, length, get_or, drop, take, refl, ap, sym, subst, append_assoc, append-nil, length-drop, ◌⊎◌, arith}
use Rattle.std.specs.List.{All}
use Rattle.std.proofs.lemmas.List.{take_more, drop_all, get_or_default}
use Rattle.std.proofs.lemmas.List.Elements.{All-nil, All-cons, All-head, All-tail, All-push, All-weaker}
use Rattle.lot_types.specs.declared.color.Color.{Color}
use Rattle.lot_types.specs.declared.stop.Stop.{Stop}
use Rattle.lot_types.specs.Ramp.{Ramp}
use Rattle.lot_paint.specs.declared.list_stop.ListStop.{ListStop}
use Rattle.lot_paint.specs.Merging.{IsReached, next_order}
use Rattle.lot_paint.specs.Stops.{color_stop, opacity_stop, color_stops, opacity_stops, stop_of_color, stop_of_opacity, by_offset, merged_stops}
use Rattle.lot_paint.proofs.Order.{Below, NotAbove, weaken_below, not_above_same, cmp_equal}
use Rattle.lot_paint.proofs.Raised.{NotFalling, not_falling_drop, colors_not_falling, opacities_not_falling}
use Rattle.lot_paint.proofs.Merging.{IsMerging, left_stops, AllBelow, AllAbove, NoneAbove, NoneBelow, left_color, left_opacity, left_passed, color_between, color_met, color_first, opacity_first, opacities_above, colors_above, less_within, greater_within, equal_within}

all_both : {X : Type 0} (P Q R : X → Type 0) → ((x : X) → P x → Q x → R x) → (xs : List X) → All P xs → All Q xs → All R xs
all_both P Q R f xs p q k d lt = f (get_or xs k d) (p k d lt) (q k d lt)

pub starts : (g : Ramp) → IsMerging g 0 0 []
unfolding merged_stops
starts g = record {
  colors_within = omega arith;
  opacities_within = omega arith;
  whole = refl;
  colors_below = λ k d lt. All-nil (λ s. Below s.offset (get_or (opacity_stops g) k d).offset);
  opacities_below = λ k d lt. All-nil (λ s. NotAbove s.offset (get_or (color_stops g) k d).offset);
}

pub ends : (g : Ramp) (i j : ℕ) (made : List Stop) → length (color_stops g) ≤ i → length (opacity_stops g) ≤ j
    → IsMerging g i j made → made ≡ merged_stops g
unfolding by_offset
ends g i j made no_color no_opacity h =
    sym (append-nil made)
    ∙ ap (λ (l : List (ListStop Color)). made ++ left_stops g l []) (sym (drop_all i (color_stops g) no_color))
    ∙ ap (λ (l : List (ListStop ℤ)). made ++ left_stops g (drop i (color_stops g)) l)
    (sym (drop_all j (opacity_stops g) no_opacity))
    ∙ h.whole

-- ---- a color stop

above_color : (g : Ramp) (i j : ℕ) (c : ListStop Color) → i < length (color_stops g) → c ≡ get_or (color_stops g) i c
    → next_order (drop i (color_stops g)) (drop j (opacity_stops g)) ≡ Less
    → AllAbove (drop j (opacity_stops g)) c.offset
above_color g i j c lt at order =
    opacities_above c (drop (i + 1) (color_stops g)) (drop j (opacity_stops g))
    (not_falling_drop (opacity_stops g) j (opacities_not_falling g))
    (ap (λ (l : List (ListStop Color)). next_order l (drop j (opacity_stops g))) (sym (color_first g i c lt at)) ∙ order)

pub color_reaches : (g : Ramp) (i j : ℕ) (made : List Stop) (c : ListStop Color) → i < length (color_stops g)
    → c ≡ get_or (color_stops g) i c → next_order (drop i (color_stops g)) (drop j (opacity_stops g)) ≡ Less
    → IsMerging g i j made → IsReached (opacity_stops g) c.offset j
color_reaches g i j made c lt at order h =
    let is_passed = λ (s : ListStop Color). NoneAbove (take j (opacity_stops g)) s.offset in
    record {
      within = h.opacities_within;
      passed = All-head is_passed c (drop (i + 1) (color_stops g))
          (subst (All is_passed) (color_first g i c lt at) h.opacities_below);
      ahead = above_color g i j c lt at order;
    }

pub color_taken : (g : Ramp) (i j : ℕ) (made : List Stop) (c : ListStop Color) → i < length (color_stops g)
    → c ≡ get_or (color_stops g) i c → next_order (drop i (color_stops g)) (drop j (opacity_stops g)) ≡ Less
    → IsMerging g i j made → IsMerging g (i + 1) j (made ++ stop_of_color (opacity_stops g) c ∷ [])
color_taken g i j made c lt at order h =
    let more = drop (i + 1) (color_stops g) in
    let left = drop j (opacity_stops g) in
    let first = color_first g i c lt at in
    let above = above_color g i j c lt at order in
    let rises = subst NotFalling first (not_falling_drop (color_stops g) i (colors_not_falling g)) in
    let passed = take_more (color_stops g) i c lt ∙ ap (λ (d : ListStop Color). take i (color_stops g) ++ d ∷ []) (sym at) in
    let is_passed = λ (s : ListStop Color). NoneAbove (take j (opacity_stops g)) s.offset in
    record {
      colors_within = omega (arith, lt);
      opacities_within = h.opacities_within;
      whole =
          append_assoc made (stop_of_color (opacity_stops g) c ∷ []) (left_stops g more left)
          ∙ ap (λ (l : List Stop). made ++ l) (sym (
          ap (λ (l : List (ListStop Color)). left_stops g l left) first ∙ left_color g c more left rises.0 above))
          ∙ h.whole;
      colors_below = subst (λ (l : List (ListStop Color)). All (λ o. AllBelow l o.offset) left) (sym passed) (
          all_both (λ (o : ListStop ℤ). AllBelow (take i (color_stops g)) o.offset) (λ (o : ListStop ℤ). Below c.offset o.offset)
          (λ (o : ListStop ℤ). AllBelow (take i (color_stops g) ++ c ∷ []) o.offset)
          (λ o before own. All-push (λ s. Below s.offset o.offset) (take i (color_stops g)) c before own)
          left h.colors_below above);
      opacities_below = All-tail is_passed c more (subst (All is_passed) first h.opacities_below);
    }

-- ---- an opacity stop

above_opacity : (g : Ramp) (i j : ℕ) (o : ListStop ℤ) → j < length (opacity_stops g) → o ≡ get_or (opacity_stops g) j o
    → next_order (drop i (color_stops g)) (drop j (opacity_stops g)) ≡ Greater
    → AllAbove (drop i (color_stops g)) o.offset
above_opacity g i j o lt at order =
    colors_above (drop i (color_stops g)) o (drop (j + 1) (opacity_stops g))
    (not_falling_drop (color_stops g) i (colors_not_falling g))
    (ap (λ (l : List (ListStop ℤ)). next_order (drop i (color_stops g)) l) (sym (opacity_first g j o lt at)) ∙ order)

below_opacity : (g : Ramp) (i j : ℕ) (made : List Stop) (o : ListStop ℤ) → j < length (opacity_stops g)
    → o ≡ get_or (opacity_stops g) j o → IsMerging g i j made → AllBelow (take i (color_stops g)) o.offset
below_opacity g i j made o lt at h =
    let is_below = λ (s : ListStop ℤ). AllBelow (take i (color_stops g)) s.offset in
    All-head is_below o (drop (j + 1) (opacity_stops g)) (subst (All is_below) (opacity_first g j o lt at) h.colors_below)

pub opacity_reaches : (g : Ramp) (i j : ℕ) (made : List Stop) (o : ListStop ℤ) → j < length (opacity_stops g)
    → o ≡ get_or (opacity_stops g) j o → next_order (drop i (color_stops g)) (drop j (opacity_stops g)) ≡ Greater
    → IsMerging g i j made → IsReached (color_stops g) o.offset i
opacity_reaches g i j made o lt at order h = record {
  within = h.colors_within;
  passed = All-weaker (λ s. Below s.offset o.offset) (λ s. NotAbove s.offset o.offset)
      (λ s. weaken_below s.offset o.offset) (take i (color_stops g)) (below_opacity g i j made o lt at h);
  ahead = above_opacity g i j o lt at order;
}

-- The invariant after an opacity stop that is not above the color stops left, where what is made fits.
opacity_done : (g : Ramp) (i j : ℕ) (made new : List Stop) (o : ListStop ℤ) → j < length (opacity_stops g)
    → o ≡ get_or (opacity_stops g) j o → NoneBelow (drop i (color_stops g)) o.offset
    → new ++ left_stops g (drop i (color_stops g)) (drop (j + 1) (opacity_stops g)) ≡ merged_stops g
    → IsMerging g i j made → IsMerging g i (j + 1) new
opacity_done g i j made new o lt at not_below whole h =
    let colors = drop i (color_stops g) in
    let first = opacity_first g j o lt at in
    let passed = take_more (opacity_stops g) j o lt ∙ ap (λ (d : ListStop ℤ). take j (opacity_stops g) ++ d ∷ []) (sym at) in
    let is_below = λ (s : ListStop ℤ). AllBelow (take i (color_stops g)) s.offset in
    record {
      colors_within = h.colors_within;
      opacities_within = omega (arith, lt);
      whole = whole;
      colors_below = All-tail is_below o (drop (j + 1) (opacity_stops g)) (subst (All is_below) first h.colors_below);
      opacities_below = subst (λ (l : List (ListStop ℤ)). All (λ c. NoneAbove l c.offset) colors) (sym passed) (
          all_both (λ (c : ListStop Color). NoneAbove (take j (opacity_stops g)) c.offset)
          (λ (c : ListStop Color). NotAbove o.offset c.offset)
          (λ (c : ListStop Color). NoneAbove (take j (opacity_stops g) ++ o ∷ []) c.offset)
          (λ c before own. All-push (λ s. NotAbove s.offset c.offset) (take j (opacity_stops g)) o before own)
          colors h.opacities_below not_below);
    }

pub opacity_taken : (g : Ramp) (i j : ℕ) (made : List Stop) (o : ListStop ℤ) → j < length (opacity_stops g)
    → o ≡ get_or (opacity_stops g) j o → next_order (drop i (color_stops g)) (drop j (opacity_stops g)) ≡ Greater
    → IsMerging g i j made → IsMerging g i (j + 1) (made ++ stop_of_opacity g o ∷ [])
opacity_taken g i j made o lt at order h =
    let colors = drop i (color_stops g) in
    let more = drop (j + 1) (opacity_stops g) in
    let first = opacity_first g j o lt at in
    let above = above_opacity g i j o lt at order in
    let rises = subst NotFalling first (not_falling_drop (opacity_stops g) j (opacities_not_falling g)) in
    let none = color_between g o.offset i (below_opacity g i j made o lt at h) above in
    opacity_done g i j made (made ++ stop_of_opacity g o ∷ []) o lt at
    (All-weaker (λ s. Below o.offset s.offset) (λ s. NotAbove o.offset s.offset) (λ s. weaken_below o.offset s.offset) colors above)
    (append_assoc made (stop_of_opacity g o ∷ []) (left_stops g colors more)
    ∙ ap (λ (l : List Stop). made ++ l) (sym (
    ap (λ (l : List (ListStop ℤ)). left_stops g colors l) first ∙ left_opacity g o colors more none above rises.0))
    ∙ h.whole) h

-- An opacity stop at the offset of a color stop is passed over.
pub opacity_passed : (g : Ramp) (i j : ℕ) (made : List Stop)
    → next_order (drop i (color_stops g)) (drop j (opacity_stops g)) ≡ Equal
    → IsMerging g i j made → IsMerging g i (j + 1) made
opacity_passed g i j made order h =
    let within = equal_within (drop i (color_stops g)) (drop j (opacity_stops g)) order in
    let colors_left = length-drop i (color_stops g) in
    let opacities_left = length-drop j (opacity_stops g) in
    let color_lt : i < length (color_stops g) = omega (arith, within.0, colors_left) in
    let opacity_lt : j < length (opacity_stops g) = omega (arith, within.1, opacities_left) in
    let c = get_or (color_stops g) i (color_stop g.flat i) in
    let o = get_or (opacity_stops g) j (opacity_stop g.flat 0 j) in
    let color_at = get_or_default (color_stops g) i (color_stop g.flat i) c color_lt in
    let opacity_at = get_or_default (opacity_stops g) j (opacity_stop g.flat 0 j) o opacity_lt in
    let color_is = color_first g i c color_lt color_at in
    let opacity_is = opacity_first g j o opacity_lt opacity_at in
    let colors = drop i (color_stops g) in
    let more_colors = drop (i + 1) (color_stops g) in
    let more = drop (j + 1) (opacity_stops g) in
    let same = cmp_equal c.offset o.offset (
    ap (λ (l : List (ListStop ℤ)). next_order (c ∷ more_colors) l) (sym opacity_is)
    ∙ ap (λ (l : List (ListStop Color)). next_order l (drop j (opacity_stops g))) (sym color_is)
    ∙ order) in
    let met = color_met g i c o.offset color_lt color_at same in
    let rises = subst NotFalling color_is (not_falling_drop (color_stops g) i (colors_not_falling g)) in
    let not_below = subst (λ (l : List (ListStop Color)). NoneBelow l c.offset) (sym color_is) (
    All-cons (λ s. NotAbove c.offset s.offset) c more_colors (not_above_same c.offset) rises.0) in
    opacity_done g i j made made o opacity_lt opacity_at (subst (NoneBelow colors) same not_below)
    (ap (λ (l : List Stop). made ++ l) (sym (
    ap (λ (l : List (ListStop ℤ)). left_stops g colors l) opacity_is ∙ left_passed g o colors more met))
    ∙ h.whole) h

-- ---- the next stop is there

pub color_within : (colors : List (ListStop Color)) (i : ℕ) (opacities : List (ListStop ℤ)) (j : ℕ)
    → next_order (drop i colors) (drop j opacities) ≡ Less → i < length colors
color_within colors i opacities j order =
    let some = less_within (drop i colors) (drop j opacities) order in
    let left = length-drop i colors in
    omega (arith, some, left)

pub opacity_within : (colors : List (ListStop Color)) (i : ℕ) (opacities : List (ListStop ℤ)) (j : ℕ)
    → next_order (drop i colors) (drop j opacities) ≡ Greater → (i < length colors) ⊎ (j < length opacities)
    → j < length opacities
opacity_within colors i opacities j order some =
    let colors_left = length-drop i colors in
    let opacities_left = length-drop j opacities in
    let any : 0 < length (drop i colors) + length (drop j opacities) = grind (arith, some, colors_left, opacities_left) in
    let one = greater_within (drop i colors) (drop j opacities) order any in
    omega (arith, one, opacities_left)
