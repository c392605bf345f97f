-- That there is one answer to a task on a content.
use Rattle.std.proofs.Common.{◌≡◌, ℕ, ℤ, ◌^◌, ◌-◌, List, [], min, Option, None, Some, option_map, Result, Ok, Err, IfOk, inl, inr, sym, refl, ap, ◌∙◌, subst, arith}
use Rattle.std.proofs.lemmas.Bool.{cases_lt}
use Rattle.lot_types.specs.declared.doc.Doc.{Doc}
use Rattle.lot_types.specs.declared.fault.Fault.{Fault}
use Rattle.lot_json.specs.declared.tree.json.Json.{Json}
use Rattle.lot_json.specs.Grammar.{JsonText}
use Rattle.lot_json.specs.Viable.{IsJsonText, IsSyntaxOffset, IsViableLength}
use Rattle.lot_types.specs.Refusals.{first}
use Rattle.lot_play.specs.declared.answer.Answer.{Answer}
use Rattle.lot_play.specs.declared.task.Task.{Task}
use Rattle.lot_play.specs.declared.task.Task.TheVariants.{Check, Frame}
use Rattle.lot_play.specs.declared.status.Status.TheVariants.{Usage}
use Rattle.lot_play.specs.Judged.{judged}
use Rattle.lot_play.specs.Arguments.{IsFrame}
use Rattle.lot_play.specs.Status.{IsJudged}
use Rattle.lot_play.specs.Judge.{IsTreeAnswer, for_fault, for_document, IsOnlyAnswer}
use Rattle.lot_play.specs.Output.{IsAnswerTo, on_no_text, on_fault, on_document, moment, drawn_answer, moment_answer, document_answer, fault_answer, syntax_answer}
use Rattle.lot_play.specs.Picture.{svg_of}

pub if_ok : {A E : Type 0} (r : Result A E) (P Q : A → Type 0) → ((x : A) → P x → Q x) → IfOk r P → IfOk r Q
if_ok (Ok x) P Q f p = f x p
if_ok (Err e) P Q f p = p

-- Two longest viable prefixes are one.
far_once : (b : List ℕ) (j k : ℕ) → IsViableLength b j → IsViableLength b k → j ≡ k
far_once b j k fj fk = elim (cases_lt j k) [
  | inl below ↦ absurd (fj.longest k below fk.within fk.viable)
  | inr above ↦ elim (cases_lt k j) [
    | inl over ↦ absurd (fk.longest j over fj.within fj.viable)
    | inr under ↦ omega arith
  ]
]

offset_once : (b : List ℕ) (j k : ℕ) → IsSyntaxOffset b j → IsSyntaxOffset b k → j ≡ k
offset_once b j k tj tk = tj.2 ∙ ap (λ (n : ℕ). min n (2 ^ 64 - 1)) (far_once b tj.0 tk.0 tj.1 tk.1) ∙ sym tk.2

-- A tree has one answer.
no_fault : (j : Json) (f : Fault) → (judged j).faults ≡ [] → first (judged j).faults ≡ Some f → ⊥
no_fault j f none h = let e : None ≡ Some f = sym (ap first none) ∙ h in cc

tree_once : (j : Json) (task : Task) (a b : Answer) → IsTreeAnswer j task a → IsTreeAnswer j task b → b ≡ a
tree_once j task a b (for_fault f h e) (for_fault g k i) =
    let same : g ≡ f = (let m = sym k ∙ h in cc) in i ∙ ap (λ (z : Fault). fault_answer z) same ∙ sym e
tree_once j task a b (for_fault f h e) (for_document d none v i) = absurd (no_fault j f none h)
tree_once j task a b (for_document d none v e) (for_fault g k i) = absurd (no_fault j g none k)
tree_once j task a b (for_document d none v e) (for_document c nil w i) =
    let same : c ≡ d = (let m = sym w ∙ v in cc) in
    let found : Some b ≡ Some a = sym i ∙ ap (λ (z : Doc). document_answer z task) same ∙ e in cc

to_answer : (content : List ℕ) (task : Task) (j : Json) (a : Answer) → JsonText content j → IsTreeAnswer j task a → IsAnswerTo content task a
to_answer content task j a text (for_fault f h e) = on_fault j f text h e
to_answer content task j a text (for_document d none v e) = on_document j d text none v e

from_answer : (content : List ℕ) (task : Task) (j : Json) → JsonText content j → ((y : Json) → JsonText content y → y ≡ j)
    → (a : Answer) → IsAnswerTo content task a → IsTreeAnswer j task a
from_answer content task j text only a (on_no_text k none far e) = absurd (none (j, text))
from_answer content task j text only a (on_fault i f other h e) = subst (λ (z : Json). IsTreeAnswer z task a) (only i other) (for_fault f h e)
from_answer content task j text only a (on_document i d other none v e) = subst (λ (z : Json). IsTreeAnswer z task a) (only i other) (for_document d none v e)

tree_answer : (content : List ℕ) (task : Task) (j : Json) (a : Answer) → JsonText content j → ((y : Json) → JsonText content y → y ≡ j)
    → IsTreeAnswer j task a → IsOnlyAnswer content task a
tree_answer content task j a text only is = record {
  is = to_answer content task j a text is;
  only = λ b other. tree_once j task a b is (from_answer content task j text only b other);
}

syntax_once : (content : List ℕ) (task : Task) (k : ℕ) → (IsJsonText content → ⊥) → IsSyntaxOffset content k
    → (a : Answer) → IsAnswerTo content task a → a ≡ syntax_answer k
syntax_once content task k none far a (on_no_text j nil other e) = e ∙ ap (λ (z : ℕ). syntax_answer z) (offset_once content j k other far)
syntax_once content task k none far a (on_fault i f text h e) = absurd (none (i, text))
syntax_once content task k none far a (on_document i d text nil v e) = absurd (none (i, text))

no_text_answer : (content : List ℕ) (task : Task) (k : ℕ) → (IsJsonText content → ⊥) → IsSyntaxOffset content k → IsOnlyAnswer content task (syntax_answer k)
no_text_answer content task k none far = record {
  is = on_no_text k none far refl;
  only = λ a is. syntax_once content task k none far a is;
}

pub judges_tree : {E : Type 0} (r : Result Answer E) (content : List ℕ) (task : Task) (j : Json) → JsonText content j → ((y : Json) → JsonText content y → y ≡ j)
    → IfOk r (IsTreeAnswer j task) → IfOk r (IsOnlyAnswer content task)
judges_tree r content task j text only = if_ok r (IsTreeAnswer j task) (IsOnlyAnswer content task) (λ a. tree_answer content task j a text only)

pub judges_no_text : {E : Type 0} (r : Result Answer E) (content : List ℕ) (task : Task) (k : ℕ) → (IsJsonText content → ⊥) → IsSyntaxOffset content k
    → IfOk r (λ a. a ≡ syntax_answer k) → IfOk r (IsOnlyAnswer content task)
judges_no_text r content task k none far =
    if_ok r (λ a. a ≡ syntax_answer k) (IsOnlyAnswer content task) (λ a e. subst (λ (z : Answer). IsOnlyAnswer content task z) (sym e) (no_text_answer content task k none far))

-- An answer on a tree judges it, and is Usage without bytes for a frame alone.
pub record IsFit (task : Task) (a : Answer) : Type 0 where
  pub judged : IsJudged a.status
  pub usage : a.status ≡ Usage → IsFrame task × (a.bytes ≡ [])

abbrev IsFitWhereSome : Task → Option Answer → Type 0
IsFitWhereSome task None = Unit {0}
IsFitWhereSome task (Some a) = IsFit task a

drawn_fit : (svg : Option (List ℕ)) (task : Task) → IsFitWhereSome task (option_map drawn_answer svg)
drawn_fit None task = tt
drawn_fit (Some bytes) task = record { judged = tt; usage = λ e. absurd cc }

moment_fit : (d : Doc) (o : Option ℤ) (task : Task) → IsFrame task → IsFitWhereSome task (moment_answer d o)
moment_fit d None task frame = record { judged = tt; usage = λ e. (frame, refl) }
moment_fit d (Some t) task frame = drawn_fit (svg_of d t) task

document_fit : (d : Doc) (task : Task) → IsFitWhereSome task (document_answer d task)
unfolding document_answer
document_fit d Check = record { judged = tt; usage = λ e. absurd cc }
document_fit d (Frame time) = moment_fit d (moment d time) (Frame time) tt

tree_fit : (j : Json) (task : Task) (a : Answer) → IsTreeAnswer j task a → IsFit task a
tree_fit j task a (for_fault f h e) = subst (λ (z : Answer). IsFit task z) (sym e) (record { judged = tt; usage = λ e. absurd cc })
tree_fit j task a (for_document d none v e) = subst (λ (z : Option Answer). IsFitWhereSome task z) e (document_fit d task)

pub tree_judged : {E : Type 0} (r : Result Answer E) (j : Json) (task : Task) → IfOk r (IsTreeAnswer j task) → IfOk r (λ a. IsJudged a.status)
tree_judged r j task = if_ok r (IsTreeAnswer j task) (λ a. IsJudged a.status) (λ a t. (tree_fit j task a t).judged)

pub tree_usage : {E : Type 0} (r : Result Answer E) (j : Json) (task : Task) → IfOk r (IsTreeAnswer j task)
    → IfOk r (λ a. a.status ≡ Usage → IsFrame task × (a.bytes ≡ []))
tree_usage r j task = if_ok r (IsTreeAnswer j task) (λ a. a.status ≡ Usage → IsFrame task × (a.bytes ≡ [])) (λ a t. (tree_fit j task a t).usage)

pub is_document : {E : Type 0} (r : Result Answer E) (j : Json) (task : Task) (d : Doc) → (judged j).faults ≡ [] → (judged j).value ≡ Some d
    → IfOk r (λ a. document_answer d task ≡ Some a) → IfOk r (IsTreeAnswer j task)
is_document r j task d none v = if_ok r (λ a. document_answer d task ≡ Some a) (IsTreeAnswer j task) (λ a e. for_document d none v e)

pub is_fault : {E : Type 0} (r : Result Answer E) (j : Json) (task : Task) (f : Fault) → first (judged j).faults ≡ Some f
    → IfOk r (λ a. a ≡ fault_answer f) → IfOk r (IsTreeAnswer j task)
is_fault r j task f h = if_ok r (λ a. a ≡ fault_answer f) (IsTreeAnswer j task) (λ a e. for_fault f h e)
