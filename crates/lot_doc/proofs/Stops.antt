-- The stops of a gradient: that there is one.
use Rattle.std.proofs.Common.{◌≡◌, ℕ, ◌<◌, ◌≤◌, List, Option, Some, codes, subst}
use Rattle.std.specs.Option.{IfSome}
use Rattle.lot_read.specs.Findings.{Pairs}
use Rattle.lot_read.specs.Rows.{needed}
use Rattle.lot_read.specs.Whole.{whole}
use Rattle.lot_json.specs.declared.tree.pointer.Step.{Step}
use Rattle.lot_doc.specs.Gradient.{max_stops}
use Rattle.lot_doc.proofs.Only.{needed_only, whole_only}

-- A number of stops without fault is not 0.
pub some_stops : (at : List Step) (m : Pairs) (p : ℕ) → (needed (codes "p") (whole 1 max_stops) at m).value ≡ Some p → 0 < p
some_stops at m p e =
    subst (λ (v : Option ℕ). IfSome v (λ n. 1 ≤ n)) e (needed_only (codes "p") (whole_only 1 max_stops) at m).only
