use Rattle.std.proofs.Common.{◌≡◌, ℕ, ◌<◌, List, [], ◌∷◌, ◌++◌, Bool, true, Option, None, Some, IsSome, bytes_eq, codes, if◌then◌else◌, slice_index_or, length, refl, sym, ap, subst, ◌∙◌, arith}
use Rattle.std.specs.List.{All}
use Rattle.std.proofs.lemmas.Grind.{fold-append}
use Rattle.std.proofs.lemmas.Slice.Eq.{bytes_eq-Decides}
use Rattle.lot_play.specs.declared.task.Task.{Task}
use Rattle.lot_play.specs.declared.task.Task.TheVariants.{Check, Frame}
use Rattle.lot_play.specs.Folder.{content_of, with_entry}
use Rattle.lot_play.specs.Arguments.{AskFor}
use Rattle.lot_rows.proofs.in_memory.draw.Goals as goal

-- Arguments that ask for the frame of a document ask for no other document.
asks_for : (arguments : List (List ℕ)) (document time : List ℕ) → arguments ≡ codes "frame" ∷ document ∷ time ∷ []
    → (names : List (List ℕ)) (task : Task) → AskFor arguments names task → names ≡ document ∷ []
asks_for arguments document time is names Check ask = let e = sym ask.2 ∙ is in absurd cc
asks_for arguments document time is names (Frame t) ask = let e = sym ask.3 ∙ is in let d : ask.0 ≡ document = cc in ask.2 ∙ ap (λ (z : List ℕ). z ∷ []) d

-- A folder contains the name of its last entry.
holds_last : (entries before : List (List ℕ × List ℕ)) (name content : List ℕ) → entries ≡ before ++ (name, content) ∷ [] → IsSome (content_of entries name)
holds_last entries before name content is =
    let last : content_of entries name ≡ with_entry name (content_of before name) (name, content) =
    ap (λ (z : List (List ℕ × List ℕ)). content_of z name) is ∙ fold-append (with_entry name) None before ((name, content) ∷ []) in
    let same : bytes_eq name name ≡ true = (bytes_eq-Decides name name).1 refl in
    subst (λ (o : Option (List ℕ)). IsSome o) (sym (last ∙ ap (λ (b : Bool). if b then Some content else content_of before name) same)) refl

all_one : (P : List ℕ → Type 0) (name : List ℕ) → P name → All P (name ∷ [])
all_one P name p k d h = let zero : k ≡ 0 = omega (arith, h) in subst (λ (i : ℕ). P (slice_index_or (name ∷ []) i d)) (sym zero) p

pub run_counting-requires-clause-serves : goal.run_counting-requires-clause-serves
run_counting-requires-clause-serves c = λ names task ask.
    let is = asks_for _ _ _ c.in_ok-arguments.ensures names task ask in
    subst (λ (z : List (List ℕ)). All (λ name. IsSome (content_of c.hold-2.new.self.entries name)) z) (sym is)
    (all_one (λ name. IsSome (content_of c.hold-2.new.self.entries name)) _ (holds_last _ _ _ _ c.in_ok-hold-2.ensures.ok))
