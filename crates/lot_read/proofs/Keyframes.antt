-- Up to where the keyframes of a list are read.
use Rattle.std.proofs.Common.{◌≡◌, ℕ, ℤ, ◌+◌, ◌-◌, List, [], ◌∷◌, ◌++◌, length, length-append, Some, None, drop, refl, ap, sym, ◌∙◌, arith}
use Rattle.std.specs.List.{slice_get}
use Rattle.lot_types.specs.declared.key.Key.{Key}
use Rattle.lot_types.specs.declared.slot.SlotKind.{SlotKind}
use Rattle.lot_types.specs.declared.slot.Use.{Use}
use Rattle.lot_types.specs.Keyframes.{last_of}
use Rattle.lot_json.specs.declared.tree.json.Json.{Json}
use Rattle.lot_json.specs.declared.tree.pointer.Step.{Step}
use Rattle.lot_read.specs.Findings.{Reader, ◌>>=◌}
use Rattle.lot_read.specs.Keyframe.{each_key}

-- The first keyframe and i more are read without fault, the last of which has the time `before`; the rest of the list
-- has the rest of the faults, values and uses.
pub record AreKeysRead {T : Type 0} (kind : SlotKind) (reader : Reader T) (at now : List Step) (old new : List Use) (first : Json) (js : List Json) (i : ℕ) (before : ℤ) (made : List (Key T)) : Type 0 where
  pub faults : (each_key kind reader (Some before) at (i + 1) (drop i js)).faults ≡ (each_key kind reader None at 0 (first ∷ js)).faults
  pub value : ((each_key kind reader (Some before) at (i + 1) (drop i js)).value >>= λ xs. Some (made ++ xs)) ≡ (each_key kind reader None at 0 (first ∷ js)).value
  pub uses : new ++ (each_key kind reader (Some before) at (i + 1) (drop i js)).uses ≡ old ++ (each_key kind reader None at 0 (first ∷ js)).uses
  pub same : now ≡ at
  pub count : length made ≡ i + 1
  pub last : (k : Key T) → last_of made ≡ Some k → k.t ≡ before

last_is : {A : Type 0} (xs : List A) (x : A) → slice_get (xs ++ x ∷ []) (length xs) ≡ Some x
last_is [] x = refl
last_is (y ∷ ys) x = last_is ys x

one_less : {A : Type 0} (xs : List A) (x : A) → length (xs ++ x ∷ []) - 1 ≡ length xs
one_less xs x = let h = length-append xs (x ∷ []) in omega (arith, h)

pub pushed_count : {T : Type 0} (old new : List (Key T)) (key : Key T) (i : ℕ) → new ≡ old ++ key ∷ [] → length old ≡ i + 1
    → length new ≡ i + 1 + 1
pushed_count old new key i is count = omega (arith, ap length is, length-append old (key ∷ []), count)

-- The last keyframe is the one that was put at the end.
pub last_pushed : {T : Type 0} (old new : List (Key T)) (key last : Key T) → new ≡ old ++ key ∷ [] → last_of new ≡ Some last → last.t ≡ key.t
last_pushed {T} old new key last is e =
    let pushed : last_of (old ++ key ∷ []) ≡ Some key =
    ap (λ (n : ℕ). slice_get (old ++ key ∷ []) n) (one_less old key) ∙ last_is old key in
    let same : Some last ≡ Some key = sym e ∙ ap (λ (ks : List (Key T)). last_of ks) is ∙ pushed in
    let equal : last ≡ key = cc in
    ap (λ (k : Key T). k.t) equal
