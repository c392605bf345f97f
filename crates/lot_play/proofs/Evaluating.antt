-- What a counter of evaluated layers does in the parts of a run.
use Rattle.std.proofs.Common.{◌≡◌, ℕ, ◌+◌, ◌≤◌, List, [], ◌∷◌, Option, None, Some, refl, sym, ap, ◌∙◌, subst, arith}
use Rattle.lot_json.specs.declared.tree.json.Json.{Json}
use Rattle.lot_json.specs.Grammar.{JsonText}
use Rattle.lot_play.specs.declared.task.Task.{Task}
use Rattle.lot_play.specs.Arguments.{Arguments, AskFor, AskForNothing, AskOnlyFor}
use Rattle.lot_play.specs.Evaluations.{most_evaluated, EvaluatesTree, EvaluatesOnce}
use Rattle.lot_play.specs.Judged.{judged}
use Rattle.lot_types.specs.declared.doc.Doc.{Doc}
use Rattle.lot_types.specs.Refusals.{first}

-- Where nothing is evaluated.
pub tree_without : (j : Json) (task : Task) (n : ℕ) → EvaluatesTree j task n n
tree_without j task n = record { fault = λ f h. refl; document = λ d none v. omega arith }

pub content_without : (content : List ℕ) (task : Task) (n : ℕ) → EvaluatesOnce content task n n
content_without content task n = record { no_text = λ none. refl; text = λ j text. tree_without j task n }

-- On the tree of an accepted document.
pub tree_of_document : (j : Json) (task : Task) (d : Doc) (before now : ℕ) → (judged j).faults ≡ [] → (judged j).value ≡ Some d
    → now ≤ before + most_evaluated d task → EvaluatesTree j task before now
tree_of_document j task d before now none value most = record {
  fault = λ f h. (let e : None ≡ Some f = sym (ap first none) ∙ h in cc);
  document = λ c nil v.
      let same : d ≡ c = (let m = sym value ∙ v in cc) in
      subst (λ (z : Doc). now ≤ before + most_evaluated z task) same most;
}

-- On a content that is the text of one tree.
pub content_of_tree : (content : List ℕ) (task : Task) (j : Json) (before now : ℕ) → JsonText content j
    → ((y : Json) → JsonText content y → y ≡ j) → EvaluatesTree j task before now → EvaluatesOnce content task before now
content_of_tree content task j before now text only tree = record {
  no_text = λ none. absurd (none (j, text));
  text = λ y other. subst (λ (z : Json). EvaluatesTree z task before now) (sym (only y other)) tree;
}

-- What holds of the one document that arguments ask for, and of its task, holds of any.
one_document : (a b : List ℕ) → a ∷ [] ≡ b ∷ [] → a ≡ b
one_document a b e = cc

pub of_document_asked : (content_of : List ℕ → Option (List ℕ)) (arguments : Arguments) (document : List ℕ) (task : Task) (before now : ℕ)
    → AskOnlyFor arguments (document ∷ []) task
    → ((content : List ℕ) → content_of document ≡ Some content → EvaluatesOnce content task before now)
    → (name content : List ℕ) (other : Task) → AskFor arguments (name ∷ []) other → content_of name ≡ Some content
    → EvaluatesOnce content other before now
of_document_asked content_of arguments document task before now the counts name content other ask known =
    let same : name ≡ document = one_document name document (the.only_names (name ∷ []) other ask) in
    subst (λ (z : Task). EvaluatesOnce content z before now) (sym (the.only_task (name ∷ []) other ask))
    (counts content (ap content_of (sym same) ∙ known))

pub of_nothing_asked : (arguments : Arguments) (n : ℕ) → AskForNothing arguments → (name content : List ℕ) (task : Task)
    → AskFor arguments (name ∷ []) task → EvaluatesOnce content task n n
of_nothing_asked arguments n none name content task ask = absurd (none (name ∷ []) task ask)
