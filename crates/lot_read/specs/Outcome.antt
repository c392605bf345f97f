-- What a reader answers: the value where there is no fault, else the first fault. Want of memory may come in place of
-- either.
use Rattle.std.specs.Prelude.{◌≡◌, List, [], ◌++◌, Some, Result, Ok, Err}
use Rattle.lot_types.specs.declared.refusal.Refusal.{Refusal}
use Rattle.lot_types.specs.declared.slot.Use.{Use}
use Rattle.lot_types.specs.Refusals.{Fails}
use Rattle.lot_read.specs.Findings.{Findings}

-- The value of a tree without faults, whose uses of slots were put at the end of a list.
pub record Gave {A : Type 0} (x : A) (old new : List Use) (found : Findings A) : Type 0 where
  pub none : found.faults ≡ []
  pub value : found.value ≡ Some x
  pub uses : new ≡ old ++ found.uses

-- The answer of a reader that puts the uses of slots at the end of a list.
abbrev pub Gives : {A : Type 0} → Result A Refusal → List Use → List Use → Findings A → Type 0
Gives (Ok x) old new found = Gave x old new found
Gives (Err e) old new found = Fails e found.faults

-- The value of a tree without faults.
pub record IsValue {A : Type 0} (x : A) (found : Findings A) : Type 0 where
  pub none : found.faults ≡ []
  pub value : found.value ≡ Some x

-- The answer of a reader that does not report the uses of slots.
abbrev pub IsAnswer : {A : Type 0} → Result A Refusal → Findings A → Type 0
IsAnswer (Ok x) found = IsValue x found
IsAnswer (Err e) found = Fails e found.faults
