-- The answer to a task on a content, and that there is only one.
use Rattle.std.specs.Prelude.{◌≡◌, ℕ, List, [], Some}
use Rattle.lot_types.specs.declared.doc.Doc.{Doc}
use Rattle.lot_types.specs.declared.fault.Fault.{Fault}
use Rattle.lot_json.specs.declared.tree.json.Json.{Json}
use Rattle.lot_types.specs.Refusals.{first}
use Rattle.lot_play.specs.declared.task.Task.{Task}
use Rattle.lot_play.specs.declared.answer.Answer.{Answer}
use Rattle.lot_play.specs.Output.{IsAnswerTo, fault_answer, document_answer}
use Rattle.lot_play.specs.Judged.{judged}

-- The answer on a tree: its first fault, or what the task asks for of the document that it is.
pub data IsTreeAnswer (j : Json) (task : Task) (answer : Answer) : Type 0 where
  for_fault : (f : Fault)
      → first (judged j).faults ≡ Some f
      → answer ≡ fault_answer f
      → IsTreeAnswer j task answer
  for_document : (d : Doc)
      → (judged j).faults ≡ []
      → (judged j).value ≡ Some d
      → document_answer d task ≡ Some answer
      → IsTreeAnswer j task answer

-- The one answer to a task on a content.
pub record IsOnlyAnswer (content : List ℕ) (task : Task) (answer : Answer) : Type 0 where
  pub is : IsAnswerTo content task answer
  pub only : (other : Answer) → IsAnswerTo content task other → other ≡ answer
