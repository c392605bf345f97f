-- What the arguments of the program ask for. The commands are this project's own.
use Rattle.std.specs.Prelude.{◌≡◌, ℕ, List, [], ◌∷◌, codes}
use Rattle.lot_json.specs.NumberToken.{IsNumberToken}
use Rattle.lot_play.specs.declared.task.Task.{Task}
use Rattle.lot_play.specs.declared.task.Task.TheVariants.{Check, Frame}

-- The arguments after the program's name.
abbrev pub Arguments : Type 0
Arguments = List (List ℕ)

-- The arguments ask for a task on the contents of these names, in the order in which they are read: `check DOC`, or
-- `frame DOC TIME`, where TIME is a number token.
abbrev pub AskFor : Arguments → List (List ℕ) → Task → Type 0
AskFor arguments names Check =
    (document : List ℕ) × (names ≡ document ∷ []) × (arguments ≡ codes "check" ∷ document ∷ [])
AskFor arguments names (Frame time) =
    (document token : List ℕ) × (names ≡ document ∷ []) × (arguments ≡ codes "frame" ∷ document ∷ token ∷ [])
    × IsNumberToken token time

-- The arguments are no command.
abbrev pub AskForNothing : Arguments → Type 0
AskForNothing arguments = (names : List (List ℕ)) (task : Task) → AskFor arguments names task → ⊥

-- The task is that of drawing a frame, which has no answer at a time at which the animation does not run.
abbrev pub IsFrame : Task → Type 0
IsFrame Check = ⊥
IsFrame (Frame time) = Unit {0}

-- The arguments ask for a frame.
abbrev pub AskForFrame : Arguments → Type 0
AskForFrame arguments = (names : List (List ℕ)) × (task : Task) × AskFor arguments names task × IsFrame task

-- The arguments ask for this task on these names, and for nothing else.
pub record AskOnlyFor (arguments : Arguments) (names : List (List ℕ)) (task : Task) : Type 0 where
  pub is : AskFor arguments names task
  pub only_names : (n : List (List ℕ)) (t : Task) → AskFor arguments n t → n ≡ names
  pub only_task : (n : List (List ℕ)) (t : Task) → AskFor arguments n t → t ≡ task
