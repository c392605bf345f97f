-- The leaves that a style paints are one range of the leaves in order of place.
use Rattle.std.specs.Prelude.{◌≡◌, List, ◌++◌}
use Rattle.lot_group.specs.Live.{Entry, leaves, painted_leaves, earlier_leaves}

-- The leaves are those before the list of the style s, then those that s paints, and then others.
pub record IsRange (all : List Entry) (s : Entry) : Type 0 where
  pub later : List Entry
  pub split : leaves all ≡ earlier_leaves all s ++ (painted_leaves all s ++ later)
