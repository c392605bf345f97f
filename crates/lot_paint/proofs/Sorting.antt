-- Stops in order of their offsets.
use Rattle.std.proofs.Common.{◌≡◌, ◌∙◌, int_lt, Bool, cond, true, false, List, [], ◌∷◌, ◌++◌, refl, ap}
use Rattle.std.specs.List.{All}
use Rattle.std.proofs.lemmas.List.Elements.{All-cons, All-head, All-tail}
use Rattle.lot_types.specs.declared.stop.Stop.{Stop}
use Rattle.lot_paint.specs.Stops.{put_by_offset, by_offset}
use Rattle.lot_paint.proofs.Order.{Below, NotAbove}

-- A stop that is not above the first one is put before it.
put_first : (s next : Stop) (more : List Stop) → NotAbove s.offset next.offset
    → put_by_offset s (next ∷ more) ≡ s ∷ next ∷ more
unfolding put_by_offset
put_first s next more h = ap (λ (b : Bool). cond b (next ∷ put_by_offset s more) (s ∷ next ∷ more)) h

put_after : (s next : Stop) (more : List Stop) → Below next.offset s.offset
    → put_by_offset s (next ∷ more) ≡ next ∷ put_by_offset s more
unfolding put_by_offset
put_after s next more h = ap (λ (b : Bool). cond b (next ∷ put_by_offset s more) (s ∷ next ∷ more)) h

put_least : (s : Stop) (stops : List Stop) → All (λ t. NotAbove s.offset t.offset) stops
    → put_by_offset s stops ≡ s ∷ stops
unfolding put_by_offset
put_least s [] h = refl
put_least s (next ∷ more) h = put_first s next more (All-head (λ t. NotAbove s.offset t.offset) next more h)

all_put : (P : Stop → Type 0) (s : Stop) (stops : List Stop) → P s → All P stops → All P (put_by_offset s stops)
unfolding put_by_offset
all_put P s [] p h = All-cons P s [] p h
all_put P s (next ∷ more) p h =
    let head = All-head P next more h in
    let tail = All-tail P next more h in
    elim (int_lt next.offset s.offset) as (λ (b : Bool). All P (cond b (next ∷ put_by_offset s more) (s ∷ next ∷ more))) [
      | true ↦ All-cons P next (put_by_offset s more) head (all_put P s more p tail)
      | false ↦ All-cons P s (next ∷ more) p h
    ]

all_sorted : (P : Stop → Type 0) (stops : List Stop) → All P stops → All P (by_offset stops)
unfolding by_offset
all_sorted P [] h = h
all_sorted P (s ∷ more) h =
    all_put P s (by_offset more) (All-head P s more h) (all_sorted P more (All-tail P s more h))

-- The first stop of a list stays the first where none is below it.
pub sorted_first : (s : Stop) (more : List Stop) → All (λ t. NotAbove s.offset t.offset) more
    → by_offset (s ∷ more) ≡ s ∷ by_offset more
unfolding by_offset
sorted_first s more h =
    put_least s (by_offset more) (all_sorted (λ t. NotAbove s.offset t.offset) more h)

-- A stop becomes the first where those before it are above it and none after it is below.
pub sorted_within : (s : Stop) (before after : List Stop) → All (λ t. Below s.offset t.offset) before
    → All (λ t. NotAbove s.offset t.offset) after
    → by_offset (before ++ s ∷ after) ≡ s ∷ by_offset (before ++ after)
unfolding by_offset
sorted_within s [] after b a = sorted_first s after a
sorted_within s (t ∷ before) after b a =
    ap (put_by_offset t) (sorted_within s before after (All-tail (λ t. Below s.offset t.offset) t before b) a)
    ∙ put_after t s (by_offset (before ++ after)) (All-head (λ t. Below s.offset t.offset) t before b)
