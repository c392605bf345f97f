-- What contracts see of standard output.
use Rattle.std.specs.Prelude.{◌≡◌, ◌==◌, ◌&&◌, ℕ, Bool, not, List, length, Result, Ok, Err, if◌then◌else◌}
use Rattle.lot_play.specs.declared.outside.sink.SinkRefusal.{SinkRefusal}
use Rattle.lot_play.specs.declared.outside.sink.SinkRefusal.TheVariants as refusal

-- The system took none of some bytes.
abbrev pub is_stuck : ℕ → List ℕ → Bool
is_stuck n bytes = n == 0 && not (length bytes == 0)

-- The answer of the sink to what the system answered to a write of the bytes: the length that was written, which may be
-- short; a fault for an error, and where the system took none of some bytes.
abbrev pub IsWriteAnswer : {E : Type 0} → Result ℕ E → List ℕ → Result ℕ SinkRefusal → Type 0
IsWriteAnswer (Ok n) bytes answer = answer ≡ (if is_stuck n bytes then Err refusal.Failed else Ok n)
IsWriteAnswer (Err e) bytes answer = answer ≡ Err refusal.Failed
