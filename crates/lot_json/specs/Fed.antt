-- Which bytes a decoder was fed, as far as its answers show.
use Rattle.std.specs.Prelude.{◌≡◌, ℕ, List, ◌++◌, length, min, Option, Some, None}
use Rattle.lot_json.specs.declared.tree.json.Json.{Json}
use Rattle.lot_json.specs.declared.refusal.JsonRefusal.{JsonRefusal}
use Rattle.lot_json.specs.declared.machine.machine.Machine.{Machine}
use Rattle.lot_json.specs.declared.decoder.Decoder.{Decoder}
use Rattle.lot_json.specs.Grammar.{JsonText}
use Rattle.lot_json.specs.Viable.{max_offset}
use Rattle.lot_json.specs.Refusal.{IsRefused}
use Rattle.lot_json.specs.Pending.{state_of}
use Rattle.lot_json.specs.Residual.{Remaining, CanEnd}

-- The machine has read the bytes b: what remains to be read are their continuations to a JSON text.
pub record Reads (machine : Machine) (taken : ℕ) (b : List ℕ) : Type 0 where
  pub counted : taken ≡ min (length b) max_offset
  pub ahead : (r : List ℕ) (x : Json) → JsonText (b ++ r) x → Remaining (state_of machine) r x
  pub back : (r : List ℕ) (x : Json) → Remaining (state_of machine) r x → JsonText (b ++ r) x
  pub live : CanEnd (state_of machine)

-- The decoder has read the bytes b, or has refused them.
abbrev pub HasTaken : Option JsonRefusal → Machine → ℕ → List ℕ → Type 0
HasTaken None machine taken b = Reads machine taken b
HasTaken (Some e) machine taken b = IsRefused e b

-- The decoder was fed the bytes b.
abbrev pub WasFed : Decoder → List ℕ → Type 0
WasFed decoder b = HasTaken decoder.refusal decoder.machine decoder.taken b

-- The decoder has refused what it was fed.
abbrev pub HasRefused : Decoder → JsonRefusal → Type 0
HasRefused decoder e = decoder.refusal ≡ Some e
