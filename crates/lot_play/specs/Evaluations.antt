-- How many layers a run evaluates. That no layer is evaluated twice for one frame is this project's own.
use Rattle.std.specs.Prelude.{◌≡◌, ℕ, ℤ, ◌+◌, ◌≤◌, List, [], length, Option, None, Some}
use Rattle.lot_comp.specs.Frame.{frame, main_comp}
use Rattle.lot_json.specs.declared.tree.json.Json.{Json}
use Rattle.lot_json.specs.Grammar.{JsonText}
use Rattle.lot_json.specs.Viable.{IsJsonText}
use Rattle.lot_play.specs.declared.task.Task.{Task}
use Rattle.lot_play.specs.declared.task.Task.TheVariants.{Check, Frame}
use Rattle.lot_play.specs.Judged.{judged}
use Rattle.lot_play.specs.Output.{moment}
use Rattle.lot_types.specs.declared.doc.Doc.{Doc}
use Rattle.lot_types.specs.declared.fault.Fault.{Fault}
use Rattle.lot_types.specs.Frame.{visits}
use Rattle.lot_types.specs.Refusals.{first}

-- How many layers the frame of a document has at a time.
unfoldable pub layers_shown : Doc → ℤ → ℕ
layers_shown d t = length (visits (frame d (main_comp d) t))

-- The same at a moment, if there is one.
abbrev pub shown_at : Doc → Option ℤ → ℕ
shown_at d None = 0
shown_at d (Some t) = layers_shown d t

-- The most layers that a task on an accepted document evaluates: for a frame those that it shows, each once.
unfoldable pub most_evaluated : Doc → Task → ℕ
most_evaluated d Check = 0
most_evaluated d (Frame time) = shown_at d (moment d time)

-- What a counter of evaluated layers does in a task on a tree: it stays where there is a fault, and on an accepted
-- document it rises by no more than that.
pub record EvaluatesTree (j : Json) (task : Task) (before now : ℕ) : Type 0 where
  pub fault : (f : Fault) → first (judged j).faults ≡ Some f → now ≡ before
  pub document : (d : Doc) → (judged j).faults ≡ [] → (judged j).value ≡ Some d → now ≤ before + most_evaluated d task

-- The same of a task on a content: it stays where that is no JSON text.
pub record EvaluatesOnce (content : List ℕ) (task : Task) (before now : ℕ) : Type 0 where
  pub no_text : (IsJsonText content → ⊥) → now ≡ before
  pub text : (j : Json) → JsonText content j → EvaluatesTree j task before now
