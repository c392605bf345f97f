-- Both lists of stops in one: what is made, and then what is left of both, is the whole.
use Rattle.std.proofs.Common.{Less, Greater, Equal, ◌≡◌, ◌∙◌, ℕ, ℤ, ◌+◌, ◌<◌, ◌≤◌, Bool, not, cond, true, false, ◌||◌, List, [], ◌∷◌, ◌++◌, map, length, get_or, drop, take, filter, refl, ap, sym, subst, take-append-drop, length-drop, arith}
use Rattle.std.specs.List.{All, list_any}
use Rattle.std.specs.Ordering.{int_eq}
use Rattle.std.proofs.lemmas.List.{drop_more, drop_all}
use Rattle.std.proofs.lemmas.List.Elements.{All-nil, All-cons, All-head, All-tail, All-append, All-map, All-filter, All-weaker}
use Rattle.lot_types.specs.declared.color.Color.{Color}
use Rattle.lot_types.specs.declared.stop.Stop.{Stop}
use Rattle.lot_types.specs.Ramp.{Ramp}
use Rattle.lot_paint.specs.declared.list_stop.ListStop.{ListStop}
use Rattle.lot_paint.specs.Merging.{next_order}
use Rattle.lot_paint.specs.Stops.{color_stops, opacity_stops, stop_of_color, stop_of_opacity, has_color_at, by_offset, merged_stops}
use Rattle.lot_paint.proofs.Order.{Below, NotAbove, below_not_above, weaken_below, below_differs, above_differs, same_is, cmp_less, cmp_greater}
use Rattle.lot_paint.proofs.Raised.{NotFalling}
use Rattle.lot_paint.proofs.Sorting.{sorted_first, sorted_within}

-- What the stops that are left make.
abbrev pub left_stops : Ramp → List (ListStop Color) → List (ListStop ℤ) → List Stop
left_stops g colors opacities =
    by_offset (map (stop_of_color (opacity_stops g)) colors
    ++ map (stop_of_opacity g) (filter (λ s. not (has_color_at g s.offset)) opacities))

-- Each stop of a list is below x.
abbrev pub AllBelow : {V : Type 0} → List (ListStop V) → ℤ → Type 0
AllBelow stops x = All (λ s. Below s.offset x) stops

abbrev pub AllAbove : {V : Type 0} → List (ListStop V) → ℤ → Type 0
AllAbove stops x = All (λ s. Below x s.offset) stops

abbrev pub NoneAbove : {V : Type 0} → List (ListStop V) → ℤ → Type 0
NoneAbove stops x = All (λ s. NotAbove s.offset x) stops

abbrev pub NoneBelow : {V : Type 0} → List (ListStop V) → ℤ → Type 0
NoneBelow stops x = All (λ s. NotAbove x s.offset) stops

-- The first i color stops and the first j opacity stops are passed. Of the two lists the passed stops of one are below
-- those that are left of the other, or at least not above.
pub record IsMerging (g : Ramp) (i j : ℕ) (made : List Stop) : Type 0 where
  pub colors_within : i ≤ length (color_stops g)
  pub opacities_within : j ≤ length (opacity_stops g)
  pub whole : made ++ left_stops g (drop i (color_stops g)) (drop j (opacity_stops g)) ≡ merged_stops g
  pub colors_below : All (λ o. AllBelow (take i (color_stops g)) o.offset) (drop j (opacity_stops g))
  pub opacities_below : All (λ c. NoneAbove (take j (opacity_stops g)) c.offset) (drop i (color_stops g))

-- ---- what one stop makes

pub left_color : (g : Ramp) (c : ListStop Color) (colors : List (ListStop Color)) (opacities : List (ListStop ℤ))
    → NoneBelow colors c.offset → AllAbove opacities c.offset
    → left_stops g (c ∷ colors) opacities ≡ stop_of_color (opacity_stops g) c ∷ left_stops g colors opacities
left_color g c colors opacities below above =
    let of_color = stop_of_color (opacity_stops g) in
    let keeps = λ (s : ListStop ℤ). not (has_color_at g s.offset) in
    let kept = filter keeps opacities in
    let not_below = λ (t : Stop). NotAbove c.offset t.offset in
    let not_above = All-weaker (λ s. Below c.offset s.offset) (λ s. NotAbove c.offset s.offset)
    (λ s. weaken_below c.offset s.offset) opacities above in
    sorted_first (of_color c) (map of_color colors ++ map (stop_of_opacity g) kept) (
    All-append not_below (map of_color colors) (map (stop_of_opacity g) kept)
    (All-map not_below of_color colors below)
    (All-map not_below (stop_of_opacity g) kept (All-filter keeps (λ s. NotAbove c.offset s.offset) opacities not_above)))

pub left_opacity : (g : Ramp) (o : ListStop ℤ) (colors : List (ListStop Color)) (opacities : List (ListStop ℤ))
    → has_color_at g o.offset ≡ false → AllAbove colors o.offset → NoneBelow opacities o.offset
    → left_stops g colors (o ∷ opacities) ≡ stop_of_opacity g o ∷ left_stops g colors opacities
left_opacity g o colors opacities has above below =
    let of_color = stop_of_color (opacity_stops g) in
    let keeps = λ (s : ListStop ℤ). not (has_color_at g s.offset) in
    let kept = filter keeps opacities in
    ap (λ (b : Bool). by_offset (map of_color colors ++ map (stop_of_opacity g) (cond (not b) (o ∷ kept) kept))) has
    ∙ sorted_within (stop_of_opacity g o) (map of_color colors) (map (stop_of_opacity g) kept)
    (All-map (λ t. Below o.offset t.offset) of_color colors above)
    (All-map (λ t. NotAbove o.offset t.offset) (stop_of_opacity g) kept
    (All-filter keeps (λ s. NotAbove o.offset s.offset) opacities below))

pub left_passed : (g : Ramp) (o : ListStop ℤ) (colors : List (ListStop Color)) (opacities : List (ListStop ℤ))
    → has_color_at g o.offset ≡ true → left_stops g colors (o ∷ opacities) ≡ left_stops g colors opacities
left_passed g o colors opacities has =
    let of_color = stop_of_color (opacity_stops g) in
    let kept = filter (λ s. not (has_color_at g s.offset)) opacities in
    ap (λ (b : Bool). by_offset (map of_color colors ++ map (stop_of_opacity g) (cond (not b) (o ∷ kept) kept))) has

-- ---- whether there is a color stop at an offset

has_none : (x : ℤ) (colors : List (ListStop Color)) → All (λ c. int_eq c.offset x ≡ false) colors
    → list_any (λ c. int_eq c.offset x) colors ≡ false
has_none x [] h = refl
has_none x (c ∷ colors) h =
    ap (λ (b : Bool). b || list_any (λ c. int_eq c.offset x) colors) (All-head (λ c. int_eq c.offset x ≡ false) c colors h)
    ∙ has_none x colors (All-tail (λ c. int_eq c.offset x ≡ false) c colors h)

pub color_between : (g : Ramp) (x : ℤ) (i : ℕ) → AllBelow (take i (color_stops g)) x → AllAbove (drop i (color_stops g)) x
    → has_color_at g x ≡ false
color_between g x i below above =
    let differs = λ (c : ListStop Color). int_eq c.offset x ≡ false in
    let before = take i (color_stops g) in
    let after = drop i (color_stops g) in
    has_none x (color_stops g) (
    subst (All differs) (take-append-drop i (color_stops g)) (
    All-append differs before after
    (All-weaker (λ c. Below c.offset x) differs (λ c. below_differs c.offset x) before below)
    (All-weaker (λ c. Below x c.offset) differs (λ c. above_differs c.offset x) after above)))

has_one : (x : ℤ) (before : List (ListStop Color)) (c : ListStop Color) (after : List (ListStop Color)) → c.offset ≡ x
    → list_any (λ c. int_eq c.offset x) (before ++ c ∷ after) ≡ true
has_one x [] c after is =
    ap (λ (b : Bool). b || list_any (λ c. int_eq c.offset x) after)
    (subst (λ (y : ℤ). int_eq c.offset y ≡ true) is (same_is c.offset))
has_one x (d ∷ before) c after is =
    let rest = has_one x before c after is in
    elim (int_eq d.offset x) as (λ (b : Bool). (b || list_any (λ c. int_eq c.offset x) (before ++ c ∷ after)) ≡ true) [ true ↦ refl | false ↦ rest ]

-- ---- a stop, and those that are left after it

pub color_first : (g : Ramp) (i : ℕ) (c : ListStop Color) → i < length (color_stops g) → c ≡ get_or (color_stops g) i c
    → drop i (color_stops g) ≡ c ∷ drop (i + 1) (color_stops g)
color_first g i c lt at =
    drop_more (color_stops g) i c lt ∙ ap (λ (d : ListStop Color). d ∷ drop (i + 1) (color_stops g)) (sym at)

pub opacity_first : (g : Ramp) (j : ℕ) (o : ListStop ℤ) → j < length (opacity_stops g) → o ≡ get_or (opacity_stops g) j o
    → drop j (opacity_stops g) ≡ o ∷ drop (j + 1) (opacity_stops g)
opacity_first g j o lt at =
    drop_more (opacity_stops g) j o lt ∙ ap (λ (d : ListStop ℤ). d ∷ drop (j + 1) (opacity_stops g)) (sym at)

pub opacities_above : (c : ListStop Color) (colors : List (ListStop Color)) (opacities : List (ListStop ℤ))
    → NotFalling opacities → next_order (c ∷ colors) opacities ≡ Less → AllAbove opacities c.offset
opacities_above c colors [] rises order = All-nil (λ s. Below c.offset s.offset)
opacities_above c colors (o ∷ opacities) rises order =
    let first = cmp_less c.offset o.offset order in
    All-cons (λ s. Below c.offset s.offset) o opacities first
    (All-weaker (λ s. NotAbove o.offset s.offset) (λ s. Below c.offset s.offset)
    (λ s. below_not_above c.offset o.offset s.offset first) opacities rises.0)

pub colors_above : (colors : List (ListStop Color)) (o : ListStop ℤ) (opacities : List (ListStop ℤ))
    → NotFalling colors → next_order colors (o ∷ opacities) ≡ Greater → AllAbove colors o.offset
colors_above [] o opacities rises order = All-nil (λ s. Below o.offset s.offset)
colors_above (c ∷ colors) o opacities rises order =
    let first = cmp_greater c.offset o.offset order in
    All-cons (λ s. Below o.offset s.offset) c colors first
    (All-weaker (λ s. NotAbove c.offset s.offset) (λ s. Below o.offset s.offset)
    (λ s. below_not_above o.offset c.offset s.offset first) colors rises.0)

pub color_met : (g : Ramp) (i : ℕ) (c : ListStop Color) (x : ℤ) → i < length (color_stops g) → c ≡ get_or (color_stops g) i c
    → c.offset ≡ x → has_color_at g x ≡ true
color_met g i c x lt at is =
    let test = λ (s : ListStop Color). int_eq s.offset x in
    let before = take i (color_stops g) in
    let after = drop (i + 1) (color_stops g) in
    ap (list_any test) (
    sym (take-append-drop i (color_stops g)) ∙ ap (λ (l : List (ListStop Color)). before ++ l) (color_first g i c lt at))
    ∙ has_one x before c after is

-- ---- which list has the next stop

pub less_within : (colors : List (ListStop Color)) (opacities : List (ListStop ℤ)) → next_order colors opacities ≡ Less
    → 0 < length colors
less_within [] opacities order = absurd (cc)
less_within (c ∷ colors) opacities order = omega arith

pub greater_within : (colors : List (ListStop Color)) (opacities : List (ListStop ℤ)) → next_order colors opacities ≡ Greater
    → 0 < length colors + length opacities → 0 < length opacities
greater_within [] [] order some = some
greater_within (c ∷ colors) [] order some = absurd (cc)
greater_within colors (o ∷ opacities) order some = omega arith

pub equal_within : (colors : List (ListStop Color)) (opacities : List (ListStop ℤ)) → next_order colors opacities ≡ Equal
    → (0 < length colors) × (0 < length opacities)
equal_within [] opacities order = absurd (cc)
equal_within (c ∷ colors) [] order = absurd (cc)
equal_within (c ∷ colors) (o ∷ opacities) order = (omega arith, omega arith)

next_end : (colors : List (ListStop Color)) → 0 < length colors → Less ≡ next_order colors []
next_end [] some = absurd (omega (arith, some))
next_end (c ∷ colors) some = refl

pub opacities_end : (colors : List (ListStop Color)) (i : ℕ) (opacities : List (ListStop ℤ)) (j : ℕ) → i < length colors
    → length opacities ≤ j → Less ≡ next_order (drop i colors) (drop j opacities)
opacities_end colors i opacities j lt le =
    let left = length-drop i colors in
    next_end (drop i colors) (omega (arith, left, lt))
    ∙ ap (λ (l : List (ListStop ℤ)). next_order (drop i colors) l) (sym (drop_all j opacities le))
