-- Within the innermost array or object: what a byte does, whatever is open.
use Rattle.std.proofs.Common.{◌≡◌, ◌↔◌, ℕ, List, [], ◌∷◌, length}
use Rattle.lot_json.specs.declared.tree.json.Json.{Json}
use Rattle.lot_json.specs.declared.tree.json.Json.TheVariants as tree
use Rattle.lot_json.specs.declared.machine.mode.Mode.TheVariants as mode
use Rattle.lot_json.specs.declared.machine.container.Container.{Container}
use Rattle.lot_json.specs.declared.machine.container.Container.TheVariants as container
use Rattle.lot_json.specs.declared.tokens.text_token.TextToken.{TextToken}
use Rattle.lot_json.specs.Characters.{Characters}
use Rattle.lot_json.specs.TextRest.{TextRest, CanEndText, TakesRun, EndsString, RejectsByte, text_of}
use Rattle.lot_json.specs.Grammar.{IsWhiteSpace}
use Rattle.lot_json.specs.Pending.{State, state_in, with_name}
use Rattle.lot_json.specs.Pending as pending
use Rattle.lot_json.specs.Residual.{Transition, IsRejected, PlacesValue, object_of}
use Rattle.lot_json.proofs.Residual.{steps_by, steps_within, steps_placed, rejected_by, lost_steps, lost_rejected}
use Rattle.lot_json.proofs.Arrays.{after_item_can, after_item_spaced, after_item_comma, after_item_closed}
use Rattle.lot_json.proofs.Objects.{Pairs, after_member_can, after_member_spaced, after_member_comma, after_member_closed, colon_can, colon_spaced, colon_value, next_member_can, next_member_spaced, next_member_name, name_can}
use Rattle.lot_json.proofs.TokenMoves.{name_run, name_ended, name_stops}

-- After an item.
pub item_space : (c : ℕ) (stack : List Container) → IsWhiteSpace c → Transition (c ∷ []) (state_in mode.AfterItem stack) (state_in mode.AfterItem stack)
item_space c (container.Array items ∷ below) sp = steps_within c (pending.AfterItem items) (pending.AfterItem items) below (after_item_spaced items (length below) c sp) (after_item_can items (length below))
item_space c (container.Object pairs name ∷ below) sp = lost_steps (c ∷ [])
item_space c [] sp = lost_steps (c ∷ [])

pub item_comma : (c : ℕ) (items : List Json) (below : List Container) → c ≡ 44 → Transition (c ∷ []) (state_in mode.AfterItem (container.Array items ∷ below)) (state_in mode.Value (container.Array items ∷ below))
item_comma c items below a = steps_by c (pending.AfterItem items) below pending.Value (container.Array items ∷ below) (after_item_comma items c a below)

pub item_close : (c : ℕ) (items : List Json) (below : List Container) (new : State) → c ≡ 93 → PlacesValue (tree.Items items) below new → Transition (c ∷ []) (state_in mode.AfterItem (container.Array items ∷ below)) new
item_close c items below new a h = steps_placed c (pending.AfterItem items) below new (tree.Items items) (after_item_closed items (length below) c a) h

-- After a member.
pub member_space : (c : ℕ) (stack : List Container) → IsWhiteSpace c → Transition (c ∷ []) (state_in mode.AfterMember stack) (state_in mode.AfterMember stack)
member_space c (container.Object pairs name ∷ below) sp = steps_within c (pending.AfterMember pairs) (pending.AfterMember pairs) below (after_member_spaced pairs (length below) c sp) (after_member_can pairs (length below))
member_space c (container.Array items ∷ below) sp = lost_steps (c ∷ [])
member_space c [] sp = lost_steps (c ∷ [])

pub member_comma : (c : ℕ) (stack : List Container) → c ≡ 44 → Transition (c ∷ []) (state_in mode.AfterMember stack) (state_in mode.NextMember stack)
member_comma c (container.Object pairs name ∷ below) a = steps_within c (pending.AfterMember pairs) (pending.NextMember pairs) below (after_member_comma pairs (length below) c a) (next_member_can pairs (length below))
member_comma c (container.Array items ∷ below) a = lost_steps (c ∷ [])
member_comma c [] a = lost_steps (c ∷ [])

pub member_close : (c : ℕ) (pairs : Pairs) (name : List ℕ) (below : List Container) (new : State) → c ≡ 125 → PlacesValue (object_of pairs) below new → Transition (c ∷ []) (state_in mode.AfterMember (container.Object pairs name ∷ below)) new
member_close c pairs name below new a h = steps_placed c (pending.AfterMember pairs) below new (object_of pairs) (after_member_closed pairs (length below) c a) h

-- After a ','.
pub next_space : (c : ℕ) (stack : List Container) → IsWhiteSpace c → Transition (c ∷ []) (state_in mode.NextMember stack) (state_in mode.NextMember stack)
next_space c (container.Object pairs name ∷ below) sp = steps_within c (pending.NextMember pairs) (pending.NextMember pairs) below (next_member_spaced pairs (length below) c sp) (next_member_can pairs (length below))
next_space c (container.Array items ∷ below) sp = lost_steps (c ∷ [])
next_space c [] sp = lost_steps (c ∷ [])

pub next_name : (c : ℕ) (token : TextToken) (stack : List Container) → c ≡ 34 → ((t s : List ℕ) → Characters t s ↔ TextRest token t s) → CanEndText token → Transition (c ∷ []) (state_in mode.NextMember stack) (state_in (mode.Name token) stack)
next_name c token (container.Object pairs name ∷ below) a k can = steps_within c (pending.NextMember pairs) (pending.Name pairs token) below (next_member_name pairs token (length below) c a k) (name_can pairs token (length below) can)
next_name c token (container.Array items ∷ below) a k can = lost_steps (c ∷ [])
next_name c token [] a k can = lost_steps (c ∷ [])

-- In a name.
pub name_on : (run : List ℕ) (old new : TextToken) (stack : List Container) → TakesRun run old new → Transition run (state_in (mode.Name old) stack) (state_in (mode.Name new) stack)
name_on run old new (container.Object pairs name ∷ below) takes = name_run pairs run old new below takes
name_on run old new (container.Array items ∷ below) takes = lost_steps run
name_on run old new [] takes = lost_steps run

pub name_end : (c : ℕ) (old new : TextToken) (stack : List Container) → EndsString c old new → Transition (c ∷ []) (state_in (mode.Name old) stack) (state_in mode.Colon (with_name (text_of new) stack))
name_end c old new (container.Object pairs name ∷ below) takes = steps_within c (pending.Name pairs old) (pending.Colon pairs (text_of new)) below (name_ended pairs old new (length below) c takes) (colon_can pairs (text_of new) (length below))
name_end c old new (container.Array items ∷ below) takes = lost_steps (c ∷ [])
name_end c old new [] takes = lost_steps (c ∷ [])

pub name_rejected : (c : ℕ) (old new : TextToken) (stack : List Container) → RejectsByte c old new → IsRejected c (state_in (mode.Name old) stack)
name_rejected c old new (container.Object pairs name ∷ below) takes = rejected_by c (pending.Name pairs old) below (name_stops pairs old new (length below) c takes)
name_rejected c old new (container.Array items ∷ below) takes = lost_rejected c
name_rejected c old new [] takes = lost_rejected c

-- After a name.
pub colon_space : (c : ℕ) (stack : List Container) → IsWhiteSpace c → Transition (c ∷ []) (state_in mode.Colon stack) (state_in mode.Colon stack)
colon_space c (container.Object pairs name ∷ below) sp = steps_within c (pending.Colon pairs name) (pending.Colon pairs name) below (colon_spaced pairs name (length below) c sp) (colon_can pairs name (length below))
colon_space c (container.Array items ∷ below) sp = lost_steps (c ∷ [])
colon_space c [] sp = lost_steps (c ∷ [])

pub colon_on : (c : ℕ) (pairs : Pairs) (name : List ℕ) (below : List Container) → c ≡ 58 → Transition (c ∷ []) (state_in mode.Colon (container.Object pairs name ∷ below)) (state_in mode.Value (container.Object pairs name ∷ below))
colon_on c pairs name below a = steps_by c (pending.Colon pairs name) below pending.Value (container.Object pairs name ∷ below) (colon_value pairs name c a below)
