-- What is being read of a JSON text: a value of which some bytes were read, and the arrays and objects that it is in.
-- Where the machine is between the items of an array or the members of an object, that array or object is the value.
use Rattle.std.specs.Prelude.{ℕ, List, [], ◌∷◌, reverse}
use Rattle.lot_json.specs.declared.tree.json.Json.{Json}
use Rattle.lot_json.specs.declared.machine.mode.Mode.{Mode}
use Rattle.lot_json.specs.declared.machine.mode.Mode.TheVariants as mode
use Rattle.lot_json.specs.declared.machine.container.Container.{Container}
use Rattle.lot_json.specs.declared.machine.container.Container.TheVariants as container
use Rattle.lot_json.specs.declared.machine.machine.Machine.{Machine}
use Rattle.lot_json.specs.declared.machine.literal.Literal.{Literal as TheLiteral}
use Rattle.lot_json.specs.declared.tokens.number_token.NumberToken.{NumberToken}
use Rattle.lot_json.specs.declared.tokens.text_token.TextToken.{TextToken}

-- The value that is being read, and what was read of it. The cases are those of a machine's mode.
pub data Pending : Type 0 where
  Start : Pending
  MarkSecond : Pending
  MarkThird : Pending
  Value : Pending
  Items : Pending
  AfterItem : List Json → Pending
  Members : Pending
  NextMember : List (List ℕ × Json) → Pending
  Name : List (List ℕ × Json) → TextToken → Pending
  Colon : List (List ℕ × Json) → List ℕ → Pending
  AfterMember : List (List ℕ × Json) → Pending
  Text : TextToken → Pending
  Number : NumberToken → Pending
  Literal : TheLiteral → ℕ → Pending
  Done : Json → Pending
  -- in no JSON text
  Lost : Pending

-- The value that is being read, and the arrays and objects that it is in, the innermost first.
pub record State : Type 0 where
  pub pending : Pending
  pub stack : List Container

abbrev pub at : Pending → List Container → State
at p stack = record { pending = p; stack = stack }

abbrev pub lost : State
lost = at Lost []

-- Between the items of the innermost array, and between the members of the innermost object.
abbrev pub in_array : (List Json → Pending) → List Container → State
in_array R (container.Array items ∷ below) = at (R items) below
in_array R (container.Object pairs name ∷ below) = lost
in_array R [] = lost

abbrev pub in_object : (List (List ℕ × Json) → List ℕ → Pending) → List Container → State
in_object R (container.Object pairs name ∷ below) = at (R pairs name) below
in_object R (container.Array items ∷ below) = lost
in_object R [] = lost

-- The state of a machine in this mode, where these arrays and objects are open, the innermost first.
abbrev pub state_in : Mode → List Container → State
state_in mode.Start stack = at Start stack
state_in mode.MarkSecond stack = at MarkSecond stack
state_in mode.MarkThird stack = at MarkThird stack
state_in mode.Value stack = at Value stack
state_in mode.Items stack = at Items stack
state_in mode.AfterItem stack = in_array AfterItem stack
state_in mode.Members stack = at Members stack
state_in mode.NextMember stack = in_object (λ pairs _. NextMember pairs) stack
state_in (mode.Name token) stack = in_object (λ pairs _. Name pairs token) stack
state_in mode.Colon stack = in_object Colon stack
state_in mode.AfterMember stack = in_object (λ pairs _. AfterMember pairs) stack
state_in (mode.Text token) stack = at (Text token) stack
state_in (mode.Number token) stack = at (Number token) stack
state_in (mode.Literal literal read) stack = at (Literal literal read) stack
state_in (mode.Done x) stack = at (Done x) stack

-- The arrays and objects that are open in a machine, the innermost first.
abbrev pub stack_of : Machine → List Container
stack_of machine = reverse machine.stack.items

abbrev pub state_of : Machine → State
state_of machine = state_in machine.mode (stack_of machine)

-- The same arrays and objects, with this name for the next member of the innermost object.
abbrev pub with_name : List ℕ → List Container → List Container
with_name name (container.Object pairs old ∷ below) = container.Object pairs name ∷ below
with_name name (container.Array items ∷ below) = container.Array items ∷ below
with_name name [] = []
