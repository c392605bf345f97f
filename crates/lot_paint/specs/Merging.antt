-- How both lists of stops are put into one. These definitions serve private clauses only.
use Rattle.std.specs.Prelude.{◌≡◌, ℕ, ℤ, ◌≤◌, int_lt, true, false, List, [], ◌∷◌, length, take, drop}
use Rattle.std.specs.List.{All}
use Rattle.std.specs.declared.cmp.Ordering.{Ordering}
use Rattle.std.specs.declared.cmp.Ordering.TheVariants.{Less, Greater}
use Rattle.std.specs.Ordering.{int_cmp}
use Rattle.lot_types.specs.declared.color.Color.{Color}
use Rattle.lot_paint.specs.declared.list_stop.ListStop.{ListStop}

-- The first k stops of a list are not above an offset, and those after them are.
pub record IsReached {V : Type 0} (stops : List (ListStop V)) (x : ℤ) (k : ℕ) : Type 0 where
  pub within : k ≤ length stops
  pub passed : All (λ s. int_lt x s.offset ≡ false) (take k stops)
  pub ahead : All (λ s. int_lt x s.offset ≡ true) (drop k stops)

-- The offset of the first color stop compared with that of the first opacity stop. A list at its end counts as above
-- the other.
abbrev pub next_order : List (ListStop Color) → List (ListStop ℤ) → Ordering
next_order [] opacities = Greater
next_order (c ∷ colors) [] = Less
next_order (c ∷ colors) (o ∷ opacities) = int_cmp c.offset o.offset
