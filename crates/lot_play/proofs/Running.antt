-- How a run ends, from how its parts end.
use Rattle.std.proofs.Common.{◌≡◌, ℕ, ◌<◌, ◌≤◌, List, [], ◌∷◌, ◌++◌, length, Option, Some, sym, refl, ap, ◌∙◌, subst, arith}
use Rattle.std.proofs.lemmas.List.{append-nil}
use Rattle.lot_play.specs.declared.answer.Answer.{Answer}
use Rattle.lot_play.specs.declared.task.Task.{Task}
use Rattle.lot_play.specs.declared.task.Task.TheVariants.{Check, Frame}
use Rattle.lot_play.specs.declared.status.Status.{Status}
use Rattle.lot_play.specs.declared.status.Status.TheVariants.{Done, Refused, Usage, ReadFault, WriteFault, Memory, TooLong}
use Rattle.lot_play.specs.Arguments.{Arguments, AskForNothing, AskOnlyFor}
use Rattle.lot_play.specs.Count.{Rose, RoseBy, RoseAbove}
use Rattle.lot_play.specs.Folder.{FolderState}
use Rattle.lot_play.specs.Sink.{SinkState, Gains, GainsPrefix}
use Rattle.lot_play.specs.Status.{IsJudged, IsShort, IsSilent}
use Rattle.lot_play.specs.Output.{IsAnswerTo, Outcome, EndsWith, NeedsMore, Performs, on_end, on_too_long, on_content, Output, on_no_command, on_command, IsKnown, AreKnown, total_length, max_document_bytes}
use Rattle.lot_play.specs.Judge.{IsOnlyAnswer}
use Rattle.lot_play.specs.Run.{Writes, all_written, write_failed, no_memory, Ends}

-- A sink to which nothing was written.
pub takes_none : (sink : SinkState) → Gains sink sink []
takes_none sink taken known = known ∙ ap (λ (z : List ℕ). Some z) (sym (append-nil taken))

takes_prefix_of : (sink sink' : SinkState) (bytes bytes' : List ℕ) → bytes' ≡ bytes → GainsPrefix sink sink' bytes → GainsPrefix sink sink' bytes'
takes_prefix_of sink sink' bytes bytes' is p = subst (λ (z : List ℕ). GainsPrefix sink sink' z) (sym is) p

-- A task on one document.
abbrev too_long_answer : Answer
too_long_answer = record { bytes = []; status = TooLong }

not_at_start : (task : Task) (a : Answer) → EndsWith task [] a → ⊥
not_at_start Check a e = e
not_at_start (Frame t) a e = e

needs_document : (task : Task) → NeedsMore task []
needs_document Check = tt
needs_document (Frame t) = tt

needs_one : (task : Task) (c : List ℕ) → NeedsMore task (c ∷ []) → ⊥
needs_one Check c n = n
needs_one (Frame t) c n = n

ends_after : (task : Task) (c : List ℕ) (a : Answer) → IsAnswerTo c task a → EndsWith task (c ∷ []) a
ends_after Check c a is = is
ends_after (Frame t) c a is = is

answer_after : (task : Task) (c : List ℕ) (a : Answer) → EndsWith task (c ∷ []) a → IsAnswerTo c task a
answer_after Check c a e = e
answer_after (Frame t) c a e = e

module _ (content_of : List ℕ → Option (List ℕ)) (task : Task) (document : List ℕ) where
  -- What is left when the document is read.
  record HasRead (c : List ℕ) (o : Outcome) : Type 0 where
    answer : IsAnswerTo c task o.answer
    read : o.read ≡ c ∷ []

  has_read : (c : List ℕ) (read names : List (List ℕ)) (o : Outcome) → read ≡ c ∷ [] → Performs content_of task read names o → HasRead c o
  has_read c read names o is (on_end ends all) = record {
    answer = answer_after task c o.answer (subst (λ (z : List (List ℕ)). EndsWith task z o.answer) is ends);
    read = all ∙ is;
  }
  has_read c read names o is (on_too_long n d others needs e known long out) = absurd (needs_one task c (subst (λ (z : List (List ℕ)). NeedsMore task z) is needs))
  has_read c read names o is (on_content n d others needs e known fits more) = absurd (needs_one task c (subst (λ (z : List (List ℕ)). NeedsMore task z) is needs))

  same_name : (n : List ℕ) (others : List (List ℕ)) → document ∷ [] ≡ n ∷ others → document ≡ n
  same_name n others e = cc

  known_as : (n c : List ℕ) (others : List (List ℕ)) → document ∷ [] ≡ n ∷ others → content_of n ≡ Some c → content_of document ≡ Some c
  known_as n c others e known = ap content_of (same_name n others e) ∙ known

  -- The document is not too long, and has one answer.
  module _ (b : List ℕ) (a : Answer) (is : (c : List ℕ) → content_of document ≡ Some c → b ≡ c) (fits : length b ≤ max_document_bytes) (the : IsOnlyAnswer b task a) where
    record IsJudgedBy (o : Outcome) : Type 0 where
      answer : o.answer ≡ a
      read : o.read ≡ b ∷ []

    judged_by : (o : Outcome) → Performs content_of task [] (document ∷ []) o → IsJudgedBy o
    judged_by o (on_end ends all) = absurd (not_at_start task o.answer ends)
    judged_by o (on_too_long n c others needs e known long out) =
        let same = is c (known_as n c others e known) in
        absurd (let h = ap (λ (z : List ℕ). length z) same in omega (arith, fits, long, h))
    judged_by o (on_content n c others needs e known short more) =
        let same = is c (known_as n c others e known) in
        let h = has_read c ([] ++ c ∷ []) others o refl more in
        record {
          answer = the.only o.answer (subst (λ (z : List ℕ). IsAnswerTo z task o.answer) (sym same) h.answer);
          read = h.read ∙ ap (λ (z : List ℕ). z ∷ []) (sym same);
        }

    abbrev the_outcome : Outcome
    the_outcome = record { answer = a; read = b ∷ [] }

    performs : IsKnown content_of document → Performs content_of task [] (document ∷ []) the_outcome
    performs known =
        let same = is known.0 known.1 in
        on_content document b [] (needs_document task) refl (known.1 ∙ ap (λ (z : List ℕ). Some z) (sym same)) fits
        (on_end (ends_after task b a the.is) refl)

    module _ (folder folder' : FolderState) (sink sink' : SinkState) (once : RoseBy (length b) folder.given folder'.given) where
      read_of : (o : Outcome) → IsJudgedBy o → RoseBy (total_length o.read) folder.given folder'.given
      read_of o j =
          let sum : total_length (b ∷ []) ≡ length b = omega arith in
          subst (λ (n : ℕ). RoseBy n folder.given folder'.given) (sym (ap total_length j.read ∙ sum)) once

      not_short : (s : Status) → IsJudged s → IsShort s → ⊥
      not_short Done v h = h
      not_short Refused v h = h
      not_short Usage v h = h
      not_short ReadFault v h = v
      not_short WriteFault v h = v
      not_short Memory v h = v
      not_short TooLong v h = v

      silent_usage : (s : Status) → IsJudged s → IsSilent s → s ≡ Usage
      silent_usage Done v h = absurd h
      silent_usage Refused v h = absurd h
      silent_usage Usage v h = refl
      silent_usage ReadFault v h = absurd v
      silent_usage WriteFault v h = absurd v
      silent_usage Memory v h = absurd v
      silent_usage TooLong v h = absurd v

      whole : IsJudged a.status → (a.status ≡ Usage → a.bytes ≡ []) → Gains sink sink' a.bytes
          → Ends (Performs content_of task [] (document ∷ [])) (IsKnown content_of document) folder folder' sink sink' a.status
      whole judged quiet takes = record {
        defined = λ w o p. let j = judged_by o p in
            (ap (λ (z : Answer). z.status) (sym j.answer), subst (λ (z : Answer). Gains sink sink' z.bytes) (sym j.answer) takes);
        exists = λ w known. (the_outcome, performs known, refl);
        read_once = λ w o p. read_of o (judged_by o p);
        prefix = λ s. absurd (not_short a.status judged s);
        silent = λ s. subst (λ (z : List ℕ). Gains sink sink' z) (quiet (silent_usage a.status judged s)) takes;
        read_fault = λ e. absurd (subst (λ (z : Status). IsJudged z) e judged);
        write_fault = λ e. absurd (subst (λ (z : Status). IsJudged z) e judged);
        too_long = λ e. absurd (subst (λ (z : Status). IsJudged z) e judged);
      }

      prefix_of : GainsPrefix sink sink' a.bytes → (o : Outcome) → Performs content_of task [] (document ∷ []) o → GainsPrefix sink sink' o.answer.bytes
      prefix_of front o p = takes_prefix_of sink sink' a.bytes o.answer.bytes (ap (λ (z : Answer). z.bytes) (judged_by o p).answer) front

      failed : Rose sink.faults sink'.faults → GainsPrefix sink sink' a.bytes
          → Ends (Performs content_of task [] (document ∷ [])) (IsKnown content_of document) folder folder' sink sink' WriteFault
      failed rose front = record {
        defined = λ w. absurd w;
        exists = λ w. absurd w;
        read_once = λ w. absurd w;
        prefix = λ s. prefix_of front;
        silent = λ s. absurd s;
        read_fault = λ e. absurd cc;
        write_fault = λ e. rose;
        too_long = λ e. absurd cc;
      }

      refused : GainsPrefix sink sink' a.bytes
          → Ends (Performs content_of task [] (document ∷ [])) (IsKnown content_of document) folder folder' sink sink' Memory
      refused front = record {
        defined = λ w. absurd w;
        exists = λ w. absurd w;
        read_once = λ w. absurd w;
        prefix = λ s. prefix_of front;
        silent = λ s. absurd s;
        read_fault = λ e. absurd cc;
        write_fault = λ e. absurd cc;
        too_long = λ e. absurd cc;
      }

      pub ends_written : (r : Status) → IsJudged a.status → (a.status ≡ Usage → a.bytes ≡ []) → Writes a sink sink' r
          → Ends (Performs content_of task [] (document ∷ [])) (IsKnown content_of document) folder folder' sink sink' r
      ends_written r judged quiet (all_written e takes) =
          subst (λ (z : Status). Ends (Performs content_of task [] (document ∷ [])) (IsKnown content_of document) folder folder' sink sink' z) (sym e) (whole judged quiet takes)
      ends_written r judged quiet (write_failed e rose front) =
          subst (λ (z : Status). Ends (Performs content_of task [] (document ∷ [])) (IsKnown content_of document) folder folder' sink sink' z) (sym e) (failed rose front)
      ends_written r judged quiet (no_memory e front) =
          subst (λ (z : Status). Ends (Performs content_of task [] (document ∷ [])) (IsKnown content_of document) folder folder' sink sink' z) (sym e) (refused front)

  -- The document is too long.
  module _ (long : (c : List ℕ) → content_of document ≡ Some c → max_document_bytes < length c) where
    stops_long : (o : Outcome) → Performs content_of task [] (document ∷ []) o → o.answer ≡ too_long_answer
    stops_long o (on_end ends all) = absurd (not_at_start task o.answer ends)
    stops_long o (on_too_long n c others needs e known far out) = ap (λ (z : Outcome). z.answer) out
    stops_long o (on_content n c others needs e known short more) =
        absurd (let h = long c (known_as n c others e known) in omega (arith, short, h))

    pub ends_too_long : (folder folder' : FolderState) (sink : SinkState) → RoseAbove max_document_bytes folder.given folder'.given
        → Ends (Performs content_of task [] (document ∷ [])) (IsKnown content_of document) folder folder' sink sink TooLong
    ends_too_long folder folder' sink rose = record {
      defined = λ w o p. let e = stops_long o p in
          (ap (λ (z : Answer). z.status) (sym e), subst (λ (z : Answer). Gains sink sink z.bytes) (sym e) (takes_none sink));
      exists = λ w known. (
        record { answer = too_long_answer; read = [] },
        on_too_long document known.0 [] (needs_document task) refl known.1 (long known.0 known.1) refl,
        refl,
      );
      read_once = λ w. absurd w;
      prefix = λ s. absurd s;
      silent = λ s. takes_none sink;
      read_fault = λ e. absurd cc;
      write_fault = λ e. absurd cc;
      too_long = λ e. rose;
    }

-- Arguments that ask for this task on these names alone have the outcome of the task.
pub narrow : (content_of : List ℕ → Option (List ℕ)) (arguments : Arguments) (names : List (List ℕ)) (task : Task) (o : Outcome)
    → AskOnlyFor arguments names task → Output content_of arguments o → Performs content_of task [] names o
narrow content_of arguments names task o the (on_no_command none e) = absurd (none names task the.is)
narrow content_of arguments names task o the (on_command n t ask p) =
    subst (λ (z : Task). Performs content_of z [] names o) (the.only_task n t ask)
    (subst (λ (z : List (List ℕ)). Performs content_of t [] z o) (the.only_names n t ask) p)

pub known_one : (content_of : List ℕ → Option (List ℕ)) (arguments : Arguments) (document : List ℕ) (task : Task)
    → AskOnlyFor arguments (document ∷ []) task → AreKnown content_of arguments → IsKnown content_of document
known_one content_of arguments document task the known = known (document ∷ []) task the.is 0 document (omega arith)

pub widen : (content_of : List ℕ → Option (List ℕ)) (arguments : Arguments) (names : List (List ℕ)) (task : Task) (s : Status)
    → AskOnlyFor arguments names task → ((o : Outcome) × Performs content_of task [] names o × (s ≡ o.answer.status))
    → (o : Outcome) × Output content_of arguments o × (s ≡ o.answer.status)
widen content_of arguments names task s the (o, p, e) = (o, on_command names task the.is p, e)

-- Arguments that are no command.
pub no_command : (content_of : List ℕ → Option (List ℕ)) (arguments : Arguments) (o : Outcome) → AskForNothing arguments
    → Output content_of arguments o → o ≡ record { answer = record { bytes = []; status = Usage }; read = [] }
no_command content_of arguments o none (on_no_command n e) = e
no_command content_of arguments o none (on_command n t ask p) = absurd (none n t ask)
