-- Paths of cubic curves, after the Lottie Specification 1.0, "Bezier Shape".
use Rattle.std.specs.Prelude.{◌≡◌, ℕ, ◌==◌, Bool, false, not, List, length, Option, Some, None, codes, if◌then◌else◌}
use Rattle.lot_types.specs.declared.fault.FaultCode.TheVariants.{Count}
use Rattle.lot_types.specs.Curve.{Curve}
use Rattle.lot_json.specs.declared.tree.pointer.Step.{Step}
use Rattle.lot_json.specs.Lookup.{member}
use Rattle.lot_read.specs.declared.bezier.Vertices.{Vertices}
use Rattle.lot_read.specs.Findings.{Findings, Reader, Row, Pairs, under, good, bad, ◌>>=◌, ◌⊛◌, ◌also◌}
use Rattle.lot_read.specs.Flag.{flag}
use Rattle.lot_read.specs.Lists.{list, value_or_first, length_of}
use Rattle.lot_read.specs.declared.members.Members.{Members}
use Rattle.lot_read.specs.Members.{fixed_in}
use Rattle.lot_types.specs.Limits.{max_list_items}
use Rattle.lot_read.specs.Rows.{needed, optional, object}
use Rattle.lot_read.specs.Vector.{vector}

-- Both numbers are known, and they differ.
abbrev pub differ : Option ℕ → Option ℕ → Bool
differ (Some m) (Some n) = not (m == n)
differ (Some m) None = false
differ None n = false

-- How many items the member of this name has, where it is a list.
abbrev pub count_in : List ℕ → Pairs → Option ℕ
count_in name m = member name m >>= length_of

-- The member of this name is a list of as many items as this one.
abbrev pub HasCount : {A : Type 0} → List ℕ → Members → List A → Type 0
HasCount name members xs = count_in name (fixed_in members).pairs ≡ Some (length xs)

-- The list of tangents of this name has as many items as that of the vertices, where both are lists.
unfoldable pub as_many : List ℕ → List Step → Option ℕ → Option ℕ → Findings (Unit {0})
as_many name at vertices tangents = if differ vertices tangents then bad Count (under at name) else good tt

-- The vertices and their tangents.
unfoldable pub vertex_rows : Row Vertices
vertex_rows at m =
    good (λ v i o. record { v = v; i = i; o = o })
    ⊛ needed (codes "v") (list max_list_items vector) at m
    ⊛ needed (codes "i") (list max_list_items vector) at m
    ⊛ needed (codes "o") (list max_list_items vector) at m

abbrev pub bezier_of : Bool → Vertices → Curve
bezier_of closed vertices = record { closed = closed; v = vertices.v; i = vertices.i; o = vertices.o }

unfoldable pub bezier_rows : Row Curve
bezier_rows at m =
    good (λ closed vertices. bezier_of closed vertices)
    ⊛ optional (codes "c") flag false at m
    ⊛ vertex_rows at m
    also as_many (codes "i") at (count_in (codes "v") m) (count_in (codes "i") m)
    also as_many (codes "o") at (count_in (codes "v") m) (count_in (codes "o") m)

-- A path: an object, or a list whose first item is one.
abbrev pub bezier : Reader Curve
bezier = value_or_first (object bezier_rows)
