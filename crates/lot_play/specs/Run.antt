-- How a run ends that is judged by one content.
use Rattle.std.specs.Prelude.{◌≡◌, []}
use Rattle.lot_play.specs.declared.answer.Answer.{Answer}
use Rattle.lot_play.specs.declared.status.Status.{Status}
use Rattle.lot_play.specs.declared.status.Status.TheVariants.{ReadFault, WriteFault, Memory, TooLong}
use Rattle.lot_play.specs.Count.{Rose, RoseBy, RoseAbove}
use Rattle.lot_play.specs.Folder.{FolderState}
use Rattle.lot_play.specs.Sink.{SinkState, Gains, GainsPrefix}
use Rattle.lot_play.specs.Status.{IsJudged, IsComplete, IsShort, IsSilent}
use Rattle.lot_play.specs.Output.{Outcome, max_document_bytes, total_length}

-- An answer was written whole, and the run ends with its status; or the sink refused some of it.
pub data Writes (answer : Answer) (sink sink' : SinkState) (result : Status) : Type 0 where
  all_written : result ≡ answer.status
      → Gains sink sink' answer.bytes
      → Writes answer sink sink' result
  write_failed : result ≡ WriteFault
      → Rose sink.faults sink'.faults
      → GainsPrefix sink sink' answer.bytes
      → Writes answer sink sink' result
  no_memory : result ≡ Memory
      → GainsPrefix sink sink' answer.bytes
      → Writes answer sink sink' result

-- What a run promises of its result, of the folder and of the sink before and after it, where the outcomes that are
-- defined are those of IsOutcome. There is one where the contents are known.
pub record Ends (IsOutcome : Outcome → Type 0) (AreContentsKnown : Type 0) (folder folder' : FolderState)
    (sink sink' : SinkState) (result : Status) : Type 0 where
  pub defined : IsComplete result → (o : Outcome) → IsOutcome o
      → (result ≡ o.answer.status) × Gains sink sink' o.answer.bytes
  pub exists : IsComplete result → AreContentsKnown → (o : Outcome) × IsOutcome o × (result ≡ o.answer.status)
  pub read_once : IsJudged result → (o : Outcome) → IsOutcome o
      → RoseBy (total_length o.read) folder.given folder'.given
  pub prefix : IsShort result → (o : Outcome) → IsOutcome o → GainsPrefix sink sink' o.answer.bytes
  pub silent : IsSilent result → Gains sink sink' []
  pub read_fault : result ≡ ReadFault → Rose folder.faults folder'.faults
  pub write_fault : result ≡ WriteFault → Rose sink.faults sink'.faults
  pub too_long : result ≡ TooLong → RoseAbove max_document_bytes folder.given folder'.given
