-- What remains to be read: which bytes end the JSON text from a state of the machine on, and which tree the text then
-- has. A state means this alone, by the definitions of the grammar.
use Rattle.std.specs.Prelude.{◌≡◌, ℕ, ◌+◌, ◌-◌, ◌<◌, ◌≤◌, ◌⊎◌, Bool, List, [], ◌∷◌, ◌++◌, length, take, drop}
use Rattle.std.specs.Bool.{MatchBool}
use Rattle.lot_json.specs.declared.tree.number.Number.{Number}
use Rattle.lot_json.specs.declared.tree.json.Json.{Json}
use Rattle.lot_json.specs.declared.tree.json.Json.TheVariants as tree
use Rattle.lot_json.specs.declared.progress.Progress.{Progress}
use Rattle.lot_json.specs.declared.progress.Progress.TheVariants as progress
use Rattle.lot_json.specs.declared.machine.mode.Mode.{Mode}
use Rattle.lot_json.specs.declared.machine.mode.Mode.TheVariants as mode
use Rattle.lot_json.specs.declared.machine.container.Container.{Container}
use Rattle.lot_json.specs.declared.machine.container.Container.TheVariants as container
use Rattle.lot_json.specs.declared.tokens.text_token.TextToken.{TextToken}
use Rattle.lot_json.specs.Bytes.{mark_first, mark_second, mark_third}
use Rattle.lot_json.specs.NumberRest.{NumberRest}
use Rattle.lot_json.specs.TextRest.{TextRest}
use Rattle.lot_json.specs.Literal.{letters_of, value_of}
use Rattle.lot_json.specs.Pending.{Pending, State}
use Rattle.lot_json.specs.Pending as pending
use Rattle.lot_json.specs.Grammar.{max_open_containers, AreWhiteSpace, Element, Items, MoreItems, Members, NextMember, AfterName, MoreMembers}

-- The number of arrays and objects that may be opened where n are open, and within one that is opened there.
abbrev pub openable : ℕ → ℕ
openable n = max_open_containers - n

abbrev pub openable_within : ℕ → ℕ
openable_within n = (max_open_containers - 1) - n

-- The tree of an object with these members.
abbrev pub object_of : List (List ℕ × Json) → Json
object_of pairs = tree.Members (record { pairs = pairs })

-- After the value y in these arrays and objects, the innermost first, the bytes r end the JSON text, whose tree is x.
abbrev pub AfterValue : List Container → Json → List ℕ → Json → Type 0
AfterValue [] y r x = AreWhiteSpace r × (x ≡ y)
AfterValue (container.Array items ∷ below) y r x =
    (b s : List ℕ) × (ys : List Json) × MoreItems (openable_within (length below)) b ys
    × (r ≡ b ++ s) × AfterValue below (tree.Items ((items ++ y ∷ []) ++ ys)) s x
AfterValue (container.Object pairs name ∷ below) y r x =
    (b s : List ℕ) × (qs : List (List ℕ × Json)) × MoreMembers (openable_within (length below)) b qs
    × (r ≡ b ++ s) × AfterValue below (object_of ((pairs ++ (name, y) ∷ []) ++ qs)) s x

-- The bytes, at least one, end a string of which some bytes were read.
abbrev pub EndsText : TextToken → List ℕ → List ℕ → Type 0
EndsText token b text = (c : ℕ) × (t : List ℕ) × (b ≡ c ∷ t) × TextRest token b text

-- The bytes b complete the value that is being read, in n arrays and objects, to y.
abbrev pub Completes : Pending → ℕ → List ℕ → Json → Type 0
Completes pending.Start n b y =
    Element (openable n) b y
    ⊎ ((t : List ℕ) × (b ≡ mark_first ∷ mark_second ∷ mark_third ∷ t) × Element (openable n) t y)
Completes pending.MarkSecond n b y = (t : List ℕ) × (b ≡ mark_second ∷ mark_third ∷ t) × Element (openable n) t y
Completes pending.MarkThird n b y = (t : List ℕ) × (b ≡ mark_third ∷ t) × Element (openable n) t y
Completes pending.Value n b y = Element (openable n) b y
Completes pending.Items n b y = (ys : List Json) × Items (openable_within n) b ys × (y ≡ tree.Items ys)
Completes (pending.AfterItem items) n b y =
    (ys : List Json) × MoreItems (openable_within n) b ys × (y ≡ tree.Items (items ++ ys))
Completes pending.Members n b y =
    (qs : List (List ℕ × Json)) × Members (openable_within n) b qs × (y ≡ object_of qs)
Completes (pending.NextMember pairs) n b y =
    (qs : List (List ℕ × Json)) × NextMember (openable_within n) b qs × (y ≡ object_of (pairs ++ qs))
Completes (pending.Name pairs token) n b y =
    (t r name : List ℕ) × (qs : List (List ℕ × Json)) × EndsText token t name
    × AfterName (openable_within n) r name qs × (b ≡ t ++ r) × (y ≡ object_of (pairs ++ qs))
Completes (pending.Colon pairs name) n b y =
    (qs : List (List ℕ × Json)) × AfterName (openable_within n) b name qs × (y ≡ object_of (pairs ++ qs))
Completes (pending.AfterMember pairs) n b y =
    (qs : List (List ℕ × Json)) × MoreMembers (openable_within n) b qs × (y ≡ object_of (pairs ++ qs))
Completes (pending.Text token) n b y = (text : List ℕ) × EndsText token b text × (y ≡ tree.Text text)
Completes (pending.Number number) n b y = (m : Number) × NumberRest number b m × (y ≡ tree.Number m)
Completes (pending.Literal literal read) n b y =
    (c : ℕ) × (t : List ℕ) × (b ≡ c ∷ t) × (b ≡ drop read (letters_of literal)) × (y ≡ value_of literal)
Completes (pending.Done x) n b y = (n ≡ 0) × (b ≡ []) × (y ≡ x)
Completes pending.Lost n b y = ⊥

-- Some bytes that P holds of complete the value that is being read, and the bytes after them end the JSON text.
abbrev pub RestOfTextBy : (List ℕ → Json → Type 0) → List Container → List ℕ → Json → Type 0
RestOfTextBy P stack r x = (b s : List ℕ) × (y : Json) × P b y × (r ≡ b ++ s) × AfterValue stack y s x

-- The bytes r end the JSON text, whose tree is x.
abbrev pub RestOfText : Pending → List Container → List ℕ → Json → Type 0
RestOfText p stack r x = RestOfTextBy (Completes p (length stack)) stack r x

abbrev pub Remaining : State → List ℕ → Json → Type 0
Remaining state r x = RestOfText state.pending state.stack r x

-- Some bytes end the JSON text from this state on.
abbrev pub CanEnd : State → Type 0
CanEnd state = (r : List ℕ) × (x : Json) × Remaining state r x

-- The bytes lead from the old state to the new one. If some bytes end the text from the old one, some do from the new.
pub record Transition (bytes : List ℕ) (old new : State) : Type 0 where
  pub ahead : (r : List ℕ) (x : Json) → Remaining old (bytes ++ r) x → Remaining new r x
  pub back : (r : List ℕ) (x : Json) → Remaining new r x → Remaining old (bytes ++ r) x
  pub live : CanEnd old → CanEnd new

-- No JSON text continues with the byte.
pub record IsRejected (c : ℕ) (old : State) : Type 0 where
  pub none : (r : List ℕ) (x : Json) → Remaining old (c ∷ r) x → ⊥

-- The answer is whether a JSON text continues with the byte, which then was read.
abbrev pub ReadsByte : Bool → ℕ → State → State → Type 0
ReadsByte continues c old new = MatchBool continues (Transition (c ∷ []) old new) (IsRejected c old)

-- The first n of the bytes, at least one, lead from the old state to the new one.
pub record ContinuesTo (n : ℕ) (bytes : List ℕ) (old new : State) : Type 0 where
  pub some : 0 < n
  pub within : n ≤ length bytes
  pub steps : Transition (take n bytes) old new

-- A JSON text can continue with the first n of the bytes, if one can from the old state, but not with the next byte.
pub record RejectsAt (n : ℕ) (bytes : List ℕ) (old : State) : Type 0 where
  pub within : n < length bytes
  pub live : CanEnd old → (r : List ℕ) × (x : Json) × Remaining old (take n bytes ++ r) x
  pub dead : (r : List ℕ) (x : Json) → Remaining old (take (n + 1) bytes ++ r) x → ⊥

-- How far the bytes were read. A machine does not end by itself, since white space may follow.
abbrev pub Advances : Progress → List ℕ → State → State → Type 0
Advances (progress.Continues n) bytes old new = ContinuesTo n bytes old new
Advances (progress.Ends n) bytes old new = ⊥
Advances (progress.Rejects n) bytes old new = RejectsAt n bytes old

-- The value was placed in these arrays and objects, which leaves the new state.
pub record PlacesValue (value : Json) (stack : List Container) (new : State) : Type 0 where
  pub ahead : (r : List ℕ) (x : Json) → AfterValue stack value r x → Remaining new r x
  pub back : (r : List ℕ) (x : Json) → Remaining new r x → AfterValue stack value r x

-- A value was placed, and nothing was read after it.
abbrev pub IsAfterValue : Mode → Type 0
IsAfterValue mode.AfterItem = Unit {0}
IsAfterValue mode.AfterMember = Unit {0}
IsAfterValue (mode.Done x) = Unit {0}
IsAfterValue mode.Start = ⊥
IsAfterValue mode.MarkSecond = ⊥
IsAfterValue mode.MarkThird = ⊥
IsAfterValue mode.Value = ⊥
IsAfterValue mode.Items = ⊥
IsAfterValue mode.Members = ⊥
IsAfterValue mode.NextMember = ⊥
IsAfterValue (mode.Name token) = ⊥
IsAfterValue mode.Colon = ⊥
IsAfterValue (mode.Text token) = ⊥
IsAfterValue (mode.Number number) = ⊥
IsAfterValue (mode.Literal literal read) = ⊥
