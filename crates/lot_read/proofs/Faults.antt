-- The first fault of two lists is that of the first list, where it has one.
use Rattle.std.proofs.Common.{◌≡◌, List, [], ◌∷◌, ◌++◌, Some}
use Rattle.lot_types.specs.declared.fault.Fault.{Fault}
use Rattle.lot_types.specs.Refusals.{first}

pub first_of_prefix : (xs ys : List Fault) (f : Fault) → first xs ≡ Some f → first (xs ++ ys) ≡ Some f
first_of_prefix [] ys f e = absurd (cc)
first_of_prefix (x ∷ xs) ys f e = cc
