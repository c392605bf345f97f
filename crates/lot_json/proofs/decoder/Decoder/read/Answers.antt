use Rattle.std.proofs.Common.{◌≤◌, ◌-◌, length, length-drop, take, drop, ap, subst, arith}
use Rattle.std.proofs.lemmas.List.{take_rest}
use Rattle.lot_json.specs.declared.refusal.JsonRefusal.TheVariants as refusal
use Rattle.lot_json.specs.declared.progress.Progress.{Progress}
use Rattle.lot_json.specs.declared.progress.Progress.TheVariants as progress
use Rattle.lot_json.specs.Pending.{state_of}
use Rattle.lot_json.specs.Residual.{Advances}
use Rattle.lot_json.proofs.Pieces.{part_read, rest_refused, continues_to, is_refused}
use Rattle.lot_json.proofs.decoder.Decoder.read.Goals as goal

pub loop-at-preserved : goal.loop-at-preserved
loop-at-preserved c =
    let piece = c.args.piece.now in
    let at = c.loop-at.at in
    let rest = take (length piece - at) (drop at piece) in
    let old = state_of c.loop-at.self.machine in
    let new = state_of c.advance.new.self in
    let continues : Advances (progress.Continues c.in-Continues.read) rest old new = subst (λ (z : Progress). Advances z rest old new) c.in-Continues.is c.in_ok-progress.ensures in
    let l = length-drop at piece in
    let within : c.in-Continues.read ≤ length piece - at = omega (arith, continues.within, ap length (take_rest piece at), l) in (
      record {
        reads = part_read c.args.self.now.machine c.loop-at.self.machine c.advance.new.self c.args.self.now.taken c.loop-at.self.taken c.saturating_add-self.result at c.in-Continues.read piece rest (take_rest piece at) c.loop-at.invariant.0.reads
            (continues_to c.loop-at.self.machine c.advance.new.self c.loop-at.self.taken c.saturating_add-self.result c.in-Continues.read rest continues c.saturating_add-self.ensures);
        same = c.loop-at.invariant.0.same;
      },
      omega (arith, within, c.loop-at.invariant.1),
    )

pub returns-in-Rejects-clause-refused : goal.returns-in-Rejects-clause-refused
returns-in-Rejects-clause-refused c =
    let piece = c.args.piece.now in
    let at = c.loop-at.at in
    let rest = take (length piece - at) (drop at piece) in
    let old = state_of c.loop-at.self.machine in
    let new = state_of c.advance.new.self in
    let breaks : Advances (progress.Rejects c.in-Rejects.read) rest old new = subst (λ (z : Progress). Advances z rest old new) c.in-Rejects.is c.in_ok-progress.ensures in
    rest_refused c.args.self.now.machine c.loop-at.self.machine c.args.self.now.taken c.loop-at.self.taken at piece rest (refusal.Syntax c.saturating_add.result) (take_rest piece at) c.loop-at.invariant.0.reads
    (λ b h. is_refused c.loop-at.self.machine c.loop-at.self.taken c.saturating_add.result c.in-Rejects.read b rest h breaks c.saturating_add.ensures)

pub unreachable-requires : goal.unreachable-requires
unreachable-requires c =
    let piece = c.args.piece.now in
    let at = c.loop-at.at in
    let rest = take (length piece - at) (drop at piece) in
    subst (λ (z : Progress). Advances z rest (state_of c.loop-at.self.machine) (state_of c.advance.new.self)) c.in-Ends.is c.in_ok-progress.ensures
