-- What the answers of a decoder mean for the bytes that it was fed.
use Rattle.std.specs.Prelude.{◌≡◌, ℕ, List}
use Rattle.lot_json.specs.declared.tree.json.Json.{Json}
use Rattle.lot_json.specs.declared.refusal.JsonRefusal.{JsonRefusal}
use Rattle.lot_json.specs.declared.refusal.JsonRefusal.TheVariants as refusal
use Rattle.lot_json.specs.Grammar.{JsonText}
use Rattle.lot_json.specs.Viable.{IsJsonText, IsViable, IsSyntaxOffset}

-- The bytes are a JSON text, and x is its only tree.
pub record IsOnlyTree (b : List ℕ) (x : Json) : Type 0 where
  pub text : JsonText b x
  pub only : (y : Json) → JsonText b y → y ≡ x

-- No continuation makes the bytes a JSON text, and this is the offset up to which one can.
pub record IsNotViable (b : List ℕ) (offset : ℕ) : Type 0 where
  pub dead : IsViable b → ⊥
  pub far : IsSyntaxOffset b offset

-- What a refusal means of bytes that others may follow. Want of memory means nothing of them.
abbrev pub IsRefused : JsonRefusal → List ℕ → Type 0
IsRefused (refusal.Syntax offset) b = IsNotViable b offset
IsRefused refusal.Memory b = Unit {0}

-- The bytes are no JSON text, and this is the offset up to which they can become one.
pub record IsNoJsonText (b : List ℕ) (offset : ℕ) : Type 0 where
  pub none : IsJsonText b → ⊥
  pub far : IsSyntaxOffset b offset

-- What a refusal means of all bytes.
abbrev pub IsNoText : JsonRefusal → List ℕ → Type 0
IsNoText (refusal.Syntax offset) b = IsNoJsonText b offset
IsNoText refusal.Memory b = Unit {0}
