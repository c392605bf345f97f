-- What is read of the members of an object, and what stays as it was.
use Rattle.std.specs.Prelude.{◌≡◌, List, Result}
use Rattle.std.specs.Borrow.{GName}
use Rattle.lot_types.specs.declared.refusal.Refusal.{Refusal}
use Rattle.lot_json.specs.declared.tree.json.JsonMembers.{out-JsonMembers}
use Rattle.lot_json.specs.declared.tree.pointer.Step.{Step}
use Rattle.lot_read.specs.declared.members.Members.{Members}
use Rattle.lot_read.specs.Findings.{Row, Pairs}
use Rattle.lot_read.specs.Outcome.{Gives}

-- What no row changes: the place of the object, its pairs, and the pointer and the list of uses that are borrowed.
pub record Fixed : Type 0 where
  pub at : List Step
  pub pairs : Pairs
  pub pointer : GName
  pub uses : GName

unfoldable pub fixed_in : Members → Fixed
fixed_in members = record {
  at = members.at.now;
  pairs = (out-JsonMembers members.members.now).pairs;
  pointer = members.at.ghost_name;
  uses = members.uses.ghost_name;
}

-- The answer of a reader of rows that takes the members from one state to the next.
abbrev pub RowGives : {A : Type 0} → Result A Refusal → Members → Members → Row A → Type 0
RowGives result old new row = Gives result old.uses.now new.uses.now (row (fixed_in old).at (fixed_in old).pairs)

abbrev pub SameMembers : Members → Members → Type 0
SameMembers old new = fixed_in new ≡ fixed_in old
