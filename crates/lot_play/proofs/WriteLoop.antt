-- A loop that writes bytes piece by piece.
use Rattle.std.proofs.Common.{◌≡◌, ℕ, ◌+◌, ◌-◌, ◌≤◌, List, [], ◌++◌, length, take, drop, Some, Result, Ok, Err, OnErr, sym, ap, ◌∙◌, append_assoc, arith}
use Rattle.std.proofs.Math.Seq.{take-add, take-length}
use Rattle.std.proofs.lemmas.List.{append-nil}
use Rattle.lot_play.specs.Sink.{SinkState, Gains, GainsPrefix}

-- The first `at` of the bytes were taken, where the sink was as the first state says and is as the second.
pub record IsWritten (sink now : SinkState) (bytes : List ℕ) (at : ℕ) : Type 0 where
  pub within : at ≤ length bytes
  pub taken : Gains sink now (take at bytes)
  pub later : sink.faults ≤ now.faults

pub more_written : (sink now next : SinkState) (bytes rest : List ℕ) (at n : ℕ) → IsWritten sink now bytes at
    → rest ≡ drop at bytes → n ≤ length bytes - at → Gains now next (take n rest) → now.faults ≤ next.faults → IsWritten sink next bytes (at + n)
more_written sink now next bytes rest at n w is fits takes later = record {
  within = let h = w.within in omega arith;
  taken = λ before known.
      let e = takes _ (w.taken before known) in
      let joined : (before ++ take at bytes) ++ take n rest ≡ before ++ take (at + n) bytes = append_assoc before (take at bytes) (take n rest)
      ∙ ap (λ (z : List ℕ). before ++ (take at bytes ++ take n z)) is ∙ ap (λ (z : List ℕ). before ++ z) (sym (take-add at n bytes)) in
      e ∙ ap (λ (z : List ℕ). Some z) joined;
  later = let h = w.later in omega arith;
}

-- A refused write leaves what was taken.
pub stays_written : (sink now next : SinkState) (bytes : List ℕ) (at : ℕ) → IsWritten sink now bytes at → Gains now next [] → GainsPrefix sink next bytes
stays_written sink now next bytes at w takes =
    (at, w.within, λ before known. takes _ (w.taken before known) ∙ ap (λ (z : List ℕ). Some z) (append-nil (before ++ take at bytes)))

pub all_taken : (sink now : SinkState) (bytes : List ℕ) (at : ℕ) → IsWritten sink now bytes at → length bytes ≤ at → Gains sink now bytes
all_taken sink now bytes at w over =
    let whole : at ≡ length bytes = (let h = w.within in omega arith) in
    λ before known. w.taken before known ∙ ap (λ (z : ℕ). Some (before ++ take z bytes)) whole ∙ ap (λ (z : List ℕ). Some (before ++ z)) (take-length bytes)

pub on_err : {A E : Type 0} (P : Type 0) (r : Result A E) → P → OnErr r P
on_err P (Ok x) p = tt
on_err P (Err e) p = p
