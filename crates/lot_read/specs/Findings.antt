-- What a reader finds in a tree: its value, all its faults in the order of the tables, and the places that use a
-- slot. A table of members is a chain of rows, of which each adds its faults and uses after those of the rows before
-- it.
use Rattle.std.specs.Prelude.{ℕ, List, [], ◌∷◌, ◌++◌, Option, Some, None}
use Rattle.lot_types.specs.declared.fault.FaultCode.{FaultCode}
use Rattle.lot_types.specs.declared.fault.Fault.{Fault}
use Rattle.lot_types.specs.declared.slot.Use.{Use}
use Rattle.lot_json.specs.declared.tree.json.Json.{Json}
use Rattle.lot_json.specs.declared.tree.pointer.Step.{Step}
use Rattle.lot_json.specs.declared.tree.pointer.Step.TheVariants as step
use Rattle.lot_json.specs.Pointer.{pointer_text}

pub record Findings (A : Type 0) : Type 0 where
  pub faults : List Fault
  pub value : Option A
  pub uses : List Use

-- The members of an object, as pairs of a name and a value in the order of the text.
abbrev pub Pairs : Type 0
Pairs = List (List ℕ × Json)

-- What is found in the value at a place.
abbrev pub Reader : Type 0 → Type 0
Reader A = List Step → Json → Findings A

-- What a row of a table finds in the members of the object at a place.
abbrev pub Row : Type 0 → Type 0
Row A = List Step → Pairs → Findings A

-- The place of a member, and of an item.
abbrev pub under : List Step → List ℕ → List Step
under at name = at ++ step.Name name ∷ []

abbrev pub item : List Step → ℕ → List Step
item at i = at ++ step.Index i ∷ []

abbrev pub fault : FaultCode → List Step → Fault
fault code at = record { code = code; pointer = pointer_text at }

-- A value without fault, and a fault in place of a value.
abbrev pub good : {A : Type 0} → A → Findings A
good x = record { faults = []; value = Some x; uses = [] }

abbrev pub bad : {A : Type 0} → FaultCode → List Step → Findings A
bad code at = record { faults = fault code at ∷ []; value = None; uses = [] }

infixl 10 ◌>>=◌
abbrev pub ◌>>=◌ : {A B : Type 0} → Option A → (A → Option B) → Option B
None >>= f = None
(Some x) >>= f = f x

-- One more row, whose value is an argument of the value before.
infixl 10 ◌⊛◌
abbrev pub ◌⊛◌ : {A B : Type 0} → Findings (A → B) → Findings A → Findings B
d ⊛ e = record {
  faults = d.faults ++ e.faults;
  value = d.value >>= λ f. e.value >>= λ x. Some (f x);
  uses = d.uses ++ e.uses;
}

-- One more row, whose value is not kept.
infixl 10 ◌also◌
abbrev pub ◌also◌ : {A B : Type 0} → Findings A → Findings B → Findings A
d also e = record {
  faults = d.faults ++ e.faults;
  value = d.value >>= λ x. e.value >>= λ _. Some x;
  uses = d.uses ++ e.uses;
}

-- What follows is read only where there was no fault.
infixl 10 ◌then◌
abbrev pub ◌then◌ : {A B : Type 0} → Findings A → (A → Findings B) → Findings B
d then f = record {
  faults = d.faults ++ (elim d.value [ Some x ↦ (f x).faults | None ↦ [] ]);
  value = d.value >>= λ x. (f x).value;
  uses = d.uses ++ (elim d.value [ Some x ↦ (f x).uses | None ↦ [] ]);
}

-- What follows depends on the value, and is read after a fault too.
infixl 10 ◌on◌
abbrev pub ◌on◌ : {A B : Type 0} → Findings A → (Option A → Findings B) → Findings B
d on f = record {
  faults = d.faults ++ (f d.value).faults;
  value = d.value >>= λ _. (f d.value).value;
  uses = d.uses ++ (f d.value).uses;
}
