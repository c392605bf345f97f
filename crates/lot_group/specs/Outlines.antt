-- The outlines of the leaves of a list at a time, after their trims.
use Rattle.std.specs.Prelude.{ℤ, List, [], ◌∷◌, map, drop, Bool, Option, Some, None, option_map, option_and_then, if◌then◌else◌}
use Rattle.lot_outline.specs.Leaf.{leaf_contours}
use Rattle.lot_prop.specs.Slots.{evaluated}
use Rattle.lot_types.specs.declared.contour.Contour.{Contour}
use Rattle.lot_types.specs.declared.doc.Doc.{Doc}
use Rattle.lot_types.specs.declared.item.Item.{Item}
use Rattle.lot_types.specs.declared.outline.Outline.{Outline}
use Rattle.lot_types.specs.Options.{all_present}
use Rattle.lot_group.specs.Trim.{trim_value}
use Rattle.lot_group.specs.Live.{Entry, live, leaves, trims, covers}

abbrev pub outline_of : List Contour → Outline
outline_of contours = record { contours = contours }

-- The outline of a leaf before its trims.
unfoldable pub own_outline : Doc → ℤ → Item → Option Outline
own_outline d t x = option_map outline_of (leaf_contours evaluated d x t)

-- A list of outlines as they replace others. Where there is no list, each of the others has no value.
abbrev pub in_place_of : List (Option Outline) → Option (List Outline) → List (Option Outline)
in_place_of os None = map (λ o. None) os
in_place_of os (Some made) = map Some made

-- What a trim leaves of each of the outlines on which it acts. It sees all of them, in order of place, so that none has
-- a value where one of them has none.
unfoldable pub trimmed : Doc → ℤ → Item → List (Option Outline) → List (Option Outline)
trimmed d t r os = in_place_of os (option_and_then (trim_value d t r) (all_present os))

-- The outlines of those leaves that pass a test, in order.
abbrev pub chosen : (Entry → Bool) → List Entry → List (Option Outline) → List (Option Outline)
chosen p [] os = []
chosen p (q ∷ qs) [] = []
chosen p (q ∷ qs) (o ∷ os) = if p q then (o ∷ chosen p qs os) else chosen p qs os

-- The first of the new outlines. Without one the leaf has none.
abbrev pub first_new : List (Option Outline) → Option Outline
first_new [] = None
first_new (o ∷ os) = o

-- The outlines of all leaves, where those that pass the test have the new ones, in order.
abbrev pub replaced : (Entry → Bool) → List Entry → List (Option Outline) → List (Option Outline)
    → List (Option Outline)
replaced p [] os new = os
replaced p (q ∷ qs) [] new = []
replaced p (q ∷ qs) (o ∷ os) new =
    if p q then (first_new new ∷ replaced p qs os (drop 1 new)) else (o ∷ replaced p qs os new)

-- The trim r acts on the leaf q: q is before it in its list, or in an item before it.
abbrev pub acts : Entry → Entry → Bool
acts r q = covers r.place q.place

-- The outlines of the leaves qs after one more trim.
unfoldable pub after_trim : Doc → ℤ → List Entry → List (Option Outline) → Entry → List (Option Outline)
after_trim d t qs os r = replaced (acts r) qs os (trimmed d t r.item (chosen (acts r) qs os))

-- The outlines after all trims, in order.
abbrev pub after_trims : Doc → ℤ → List Entry → List (Option Outline) → List Entry → List (Option Outline)
after_trims d t qs os [] = os
after_trims d t qs os (r ∷ rs) = after_trims d t qs (after_trim d t qs os r) rs

-- The outlines of the leaves of a list at a time: each leaf's own, after each live trim that acts on it, in order of
-- place. So a trim of an inner group comes before those of the groups around it.
unfoldable pub outlines_of : Doc → ℤ → List Item → List (Option Outline)
outlines_of d t items =
    after_trims d t (leaves (live items)) (map (λ q. own_outline d t q.item) (leaves (live items)))
    (trims (live items))
