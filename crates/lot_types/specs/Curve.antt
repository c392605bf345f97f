-- A path of cubic curves, after the Lottie Specification 1.0, "Bezier Shape".
use Rattle.std.specs.Prelude.{◌≡◌, ◌≤◌, Bool, List, length}
use Rattle.lot_types.specs.declared.point.Point.{Point}
use Rattle.lot_types.specs.Limits.{max_list_items}

-- Its vertices, and for each the tangent that enters it and the one that leaves it.
pub record Curve : Type 0 where
  pub closed : Bool
  pub v : List Point
  pub i : List Point
  pub o : List Point

-- Each vertex has both tangents, and there are at most as many as a list may have.
pub record AreVertices (v i o : List Point) : Type 0 where
  pub into : length i ≡ length v
  pub out : length o ≡ length v
  pub few : length v ≤ max_list_items
