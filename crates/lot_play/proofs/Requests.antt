-- Arguments that are a command.
use Rattle.std.proofs.Common.{◌≡◌, ℕ, ◌≤◌, ◌<◌, List, [], ◌∷◌, length, get_or, codes, refl, sym, ap, ◌∙◌, subst, arith}
use Rattle.lot_json.specs.declared.tree.number.Number.{Number}
use Rattle.lot_json.specs.NumberToken.{IsNumberToken}
use Rattle.lot_play.specs.declared.task.Task.{Task}
use Rattle.lot_play.specs.declared.task.Task.TheVariants.{Check, Frame}
use Rattle.lot_play.specs.Arguments.{Arguments, AskFor, AskForNothing, AskOnlyFor}

-- A list of three.
pub three : (xs : Arguments) (a b c : List ℕ) → 3 ≤ length xs → length xs < 4 → a ≡ get_or xs 0 a → b ≡ get_or xs 1 b → c ≡ get_or xs 2 c → xs ≡ a ∷ b ∷ c ∷ []
three [] a b c low high ea eb ec = absurd (omega arith)
three (x ∷ []) a b c low high ea eb ec = absurd (omega arith)
three (x ∷ y ∷ []) a b c low high ea eb ec = absurd (omega arith)
three (x ∷ y ∷ z ∷ []) a b c low high ea eb ec = cc
three (x ∷ y ∷ z ∷ w ∷ ws) a b c low high ea eb ec = absurd (omega arith)

-- A list of two.
pub two : (xs : Arguments) (a b : List ℕ) → 2 ≤ length xs → length xs < 3 → a ≡ get_or xs 0 a → b ≡ get_or xs 1 b → xs ≡ a ∷ b ∷ []
two [] a b low high ea eb = absurd (omega arith)
two (x ∷ []) a b low high ea eb = absurd (omega arith)
two (x ∷ y ∷ []) a b low high ea eb = cc
two (x ∷ y ∷ z ∷ zs) a b low high ea eb = absurd (omega arith)

same_items : (a b c d e f : List ℕ) → a ∷ b ∷ c ∷ [] ≡ d ∷ e ∷ f ∷ [] → (b ≡ e) × (c ≡ f)
same_items a b c d e f is = (cc, cc)

one_name : (name document : List ℕ) (names : List (List ℕ)) → names ≡ name ∷ [] → name ≡ document → names ≡ document ∷ []
one_name name document names is e = is ∙ ap (λ (z : List ℕ). z ∷ []) e

-- Three arguments whose last is a number token ask for a frame.
module _ (arguments : Arguments) (command document token : List ℕ) (are : arguments ≡ command ∷ document ∷ token ∷ []) where
  only_frame : (time : Number) → ((t : Number) → IsNumberToken token t → t ≡ time)
      → (names : List (List ℕ)) (task : Task) → AskFor arguments names task → (names ≡ document ∷ []) × (task ≡ Frame time)
  only_frame time only names Check ask = let e = sym ask.2 ∙ are in absurd cc
  only_frame time only names (Frame t) ask =
      let same = same_items (codes "frame") ask.0 ask.1 command document token (sym ask.3 ∙ are) in
      (one_name ask.0 document names ask.2 same.0, ap (λ (z : Number). Frame z) (only t (subst (λ (z : List ℕ). IsNumberToken z t) same.1 ask.4)))

  pub frame_request : (time : Number) → command ≡ codes "frame" → IsNumberToken token time → ((t : Number) → IsNumberToken token t → t ≡ time)
      → AskOnlyFor arguments (document ∷ []) (Frame time)
  frame_request time word text only = record {
    is = (document, token, refl, are ∙ ap (λ (z : List ℕ). z ∷ document ∷ token ∷ []) word, text);
    only_names = λ n t ask. (only_frame time only n t ask).0;
    only_task = λ n t ask. (only_frame time only n t ask).1;
  }

  pub no_frame_request : ((t : Number) → IsNumberToken token t → ⊥) → AskForNothing arguments
  no_frame_request none names Check ask = let e = sym ask.2 ∙ are in cc
  no_frame_request none names (Frame t) ask =
      let same = same_items (codes "frame") ask.0 ask.1 command document token (sym ask.3 ∙ are) in none t (subst (λ (z : List ℕ). IsNumberToken z t) same.1 ask.4)

-- Two arguments ask for a check.
module _ (arguments : Arguments) (command document : List ℕ) (are : arguments ≡ command ∷ document ∷ []) where
  only_check : (names : List (List ℕ)) (task : Task) → AskFor arguments names task → (names ≡ document ∷ []) × (task ≡ Check)
  only_check names Check ask = let e = sym ask.2 ∙ are in (one_name ask.0 document names ask.1 (cc), refl)
  only_check names (Frame t) ask = let e = sym ask.3 ∙ are in absurd cc

  pub check_request : command ≡ codes "check" → AskOnlyFor arguments (document ∷ []) Check
  check_request word = record {
    is = (document, refl, are ∙ ap (λ (z : List ℕ). z ∷ document ∷ []) word);
    only_names = λ n t ask. (only_check n t ask).0;
    only_task = λ n t ask. (only_check n t ask).1;
  }
