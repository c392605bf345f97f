-- What a refusal reports.
use Rattle.std.specs.Prelude.{◌≡◌, List, [], ◌∷◌, Option, Some, None}
use Rattle.lot_types.specs.declared.fault.Fault.{Fault}
use Rattle.lot_types.specs.declared.refusal.Refusal.{Refusal}
use Rattle.lot_types.specs.declared.refusal.Refusal.TheVariants as refusal

abbrev pub first : List Fault → Option Fault
first [] = None
first (f ∷ fs) = Some f

-- A refusal reports the first of these faults. Want of memory may come in its place.
abbrev pub Fails : Refusal → List Fault → Type 0
Fails refusal.Memory faults = Unit {0}
Fails (refusal.Fault f) faults = first faults ≡ Some f
