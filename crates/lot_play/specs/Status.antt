-- The kinds of statuses, and their numbers. They are this project's own. A new status has to be sorted into each kind.
use Rattle.std.specs.Prelude.{ℕ}
use Rattle.lot_play.specs.declared.status.Status.{Status}
use Rattle.lot_play.specs.declared.status.Status.TheVariants.{Done, Refused, Usage, ReadFault, WriteFault, Memory, TooLong}

-- A status that judges contents which were read whole, or the arguments.
abbrev pub IsJudged : Status → Type 0
IsJudged Done = Unit {0}
IsJudged Refused = Unit {0}
IsJudged Usage = Unit {0}
IsJudged ReadFault = ⊥
IsJudged WriteFault = ⊥
IsJudged Memory = ⊥
IsJudged TooLong = ⊥

-- A status of a run whose output was written whole.
abbrev pub IsComplete : Status → Type 0
IsComplete Done = Unit {0}
IsComplete Refused = Unit {0}
IsComplete Usage = Unit {0}
IsComplete ReadFault = ⊥
IsComplete WriteFault = ⊥
IsComplete Memory = ⊥
IsComplete TooLong = Unit {0}

-- A status of a run that stopped short of its output.
abbrev pub IsShort : Status → Type 0
IsShort Done = ⊥
IsShort Refused = ⊥
IsShort Usage = ⊥
IsShort ReadFault = Unit {0}
IsShort WriteFault = Unit {0}
IsShort Memory = Unit {0}
IsShort TooLong = ⊥

-- A status of a run that wrote nothing.
abbrev pub IsSilent : Status → Type 0
IsSilent Done = ⊥
IsSilent Refused = ⊥
IsSilent Usage = Unit {0}
IsSilent ReadFault = Unit {0}
IsSilent WriteFault = ⊥
IsSilent Memory = ⊥
IsSilent TooLong = Unit {0}

-- The number of a status, with which the program ends.
abbrev pub status_number : Status → ℕ
status_number Done = 0
status_number Refused = 1
status_number Usage = 2
status_number ReadFault = 3
status_number WriteFault = 4
status_number Memory = 5
status_number TooLong = 6
