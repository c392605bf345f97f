-- The output of the program: which bytes and which status, for all arguments and all contents. The lines and the order
-- of judgement are this project's own.
use Rattle.std.specs.Prelude.{◌≡◌, ℕ, ℤ, ◌+◌, ◌≤◌, ◌<◌, ◌&&◌, int_le, int_lt, List, [], ◌∷◌, ◌++◌, length, Option, None, Some, option_map, codes, if◌then◌else◌}
use Rattle.std.specs.Fmt.{decimal}
use Rattle.std.specs.List.{All}
use Rattle.lot_types.specs.declared.fault.Fault.{Fault}
use Rattle.lot_types.specs.FaultName.{fault_name}
use Rattle.lot_json.specs.declared.tree.number.Number.{Number}
use Rattle.lot_json.specs.declared.tree.number.Number.TheVariants.{Micro, Beyond}
use Rattle.lot_json.specs.declared.tree.json.Json.{Json}
use Rattle.lot_json.specs.Grammar.{JsonText}
use Rattle.lot_json.specs.Viable.{IsJsonText, IsSyntaxOffset}
use Rattle.lot_types.specs.Refusals.{first}
use Rattle.lot_types.specs.declared.doc.Doc.{Doc}
use Rattle.lot_play.specs.declared.task.Task.{Task}
use Rattle.lot_play.specs.declared.task.Task.TheVariants.{Check, Frame}
use Rattle.lot_play.specs.declared.status.Status.TheVariants.{Done, Refused, Usage, TooLong}
use Rattle.lot_play.specs.declared.answer.Answer.{Answer}
use Rattle.lot_play.specs.Arguments.{Arguments, AskFor, AskForNothing}
use Rattle.lot_play.specs.Judged.{judged}
use Rattle.lot_play.specs.Picture.{svg_of}

-- The greatest number of bytes of a document.
abbrev pub max_document_bytes : ℕ
max_document_bytes = 16777216

-- The time, where the animation runs at it: from its first frame to before its end.
abbrev pub moment : Doc → Number → Option ℤ
moment d (Micro t) = if int_le d.ip t && int_lt t d.op then Some t else None
moment d Beyond = None

abbrev pub silent_answer : Answer
silent_answer = record { bytes = []; status = Usage }

abbrev pub drawn_answer : List ℕ → Answer
drawn_answer svg = record { bytes = svg; status = Done }

-- The SVG of a document at a moment; nothing where the animation does not run.
abbrev pub moment_answer : Doc → Option ℤ → Option Answer
moment_answer d None = Some silent_answer
moment_answer d (Some t) = option_map drawn_answer (svg_of d t)

-- The answer to a task on an accepted document.
unfoldable pub document_answer : Doc → Task → Option Answer
document_answer d Check = Some (record { bytes = codes "ok\n"; status = Done })
document_answer d (Frame time) = moment_answer d (moment d time)

-- The line for the first fault of a document: the fault's name, and its JSON pointer.
unfoldable pub fault_line : Fault → List ℕ
fault_line f = codes "fault " ++ fault_name f.code ++ codes " " ++ f.pointer ++ codes "\n"

abbrev pub fault_answer : Fault → Answer
fault_answer f = record { bytes = fault_line f; status = Refused }

-- The line for bytes that are no JSON text, with the length of their longest prefix that can become one.
unfoldable pub syntax_line : ℕ → List ℕ
syntax_line offset = codes "syntax " ++ decimal offset ++ codes "\n"

abbrev pub syntax_answer : ℕ → Answer
syntax_answer offset = record { bytes = syntax_line offset; status = Refused }

-- The answer to a task on a content: it is no JSON text, or has a fault, of which the first is reported, or is an
-- accepted document.
pub data IsAnswerTo (content : List ℕ) (task : Task) (answer : Answer) : Type 0 where
  on_no_text : (offset : ℕ)
      → (IsJsonText content → ⊥)
      → IsSyntaxOffset content offset
      → answer ≡ syntax_answer offset
      → IsAnswerTo content task answer
  on_fault : (j : Json) (f : Fault)
      → JsonText content j
      → first (judged j).faults ≡ Some f
      → answer ≡ fault_answer f
      → IsAnswerTo content task answer
  on_document : (j : Json) (d : Doc)
      → JsonText content j
      → (judged j).faults ≡ []
      → (judged j).value ≡ Some d
      → document_answer d task ≡ Some answer
      → IsAnswerTo content task answer

-- What a run answers, and the contents that it reads whole, in order.
pub record Outcome : Type 0 where
  pub answer : Answer
  pub read : List (List ℕ)

-- The task needs a content more than these.
abbrev pub NeedsMore : Task → List (List ℕ) → Type 0
NeedsMore Check [] = Unit {0}
NeedsMore Check (judged ∷ more) = ⊥
NeedsMore (Frame time) [] = Unit {0}
NeedsMore (Frame time) (judged ∷ more) = ⊥

-- The task ends when it has read these contents, and no sooner, with this answer.
abbrev pub EndsWith : Task → List (List ℕ) → Answer → Type 0
EndsWith Check [] answer = ⊥
EndsWith Check (document ∷ []) answer = IsAnswerTo document Check answer
EndsWith Check (judged ∷ next ∷ more) answer = ⊥
EndsWith (Frame time) [] answer = ⊥
EndsWith (Frame time) (document ∷ []) answer = IsAnswerTo document (Frame time) answer
EndsWith (Frame time) (judged ∷ next ∷ more) answer = ⊥

-- The outcome of a task that has read some contents and has some names still to read: it ends; or the content of the
-- next name is too long; or it reads that content and continues.
pub data Performs (content_of : List ℕ → Option (List ℕ)) (task : Task)
    : List (List ℕ) → List (List ℕ) → Outcome → Type 0 where
  on_end : {read names : List (List ℕ)} {o : Outcome}
      → EndsWith task read o.answer
      → o.read ≡ read
      → Performs content_of task read names o
  on_too_long : {read names : List (List ℕ)} {o : Outcome} (name content : List ℕ) (others : List (List ℕ))
      → NeedsMore task read
      → names ≡ name ∷ others
      → content_of name ≡ Some content
      → max_document_bytes < length content
      → o ≡ record { answer = record { bytes = []; status = TooLong }; read = read }
      → Performs content_of task read names o
  on_content : {read names : List (List ℕ)} {o : Outcome} (name content : List ℕ) (others : List (List ℕ))
      → NeedsMore task read
      → names ≡ name ∷ others
      → content_of name ≡ Some content
      → length content ≤ max_document_bytes
      → Performs content_of task (read ++ content ∷ []) others o
      → Performs content_of task read names o

-- The outcome of a run on its arguments, where the contents that they name are known.
pub data Output (content_of : List ℕ → Option (List ℕ)) (arguments : Arguments) (o : Outcome) : Type 0 where
  on_no_command : AskForNothing arguments
      → o ≡ record { answer = record { bytes = []; status = Usage }; read = [] }
      → Output content_of arguments o
  on_command : (names : List (List ℕ)) (task : Task)
      → AskFor arguments names task
      → Performs content_of task [] names o
      → Output content_of arguments o

-- The content of a name is known.
abbrev pub IsKnown : (List ℕ → Option (List ℕ)) → List ℕ → Type 0
IsKnown content_of name = (content : List ℕ) × (content_of name ≡ Some content)

-- The contents that the arguments name are known.
abbrev pub AreKnown : (List ℕ → Option (List ℕ)) → Arguments → Type 0
AreKnown content_of arguments =
    (names : List (List ℕ)) (task : Task) → AskFor arguments names task
    → All (IsKnown content_of) names

-- The names that the arguments ask for are served.
abbrev pub AreServed : (List ℕ → Type 0) → Arguments → Type 0
AreServed serves arguments =
    (names : List (List ℕ)) (task : Task) → AskFor arguments names task → All serves names

-- How many bytes some contents have together.
abbrev pub total_length : List (List ℕ) → ℕ
total_length [] = 0
total_length (content ∷ more) = length content + total_length more
