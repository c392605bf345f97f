use Rattle.std.proofs.Common.{◌≢◌, ◌∙◌, ◌≡◌, rules}
use Rattle.lot_trim.specs.Cut.{whole_run, width_of, kept_intervals}
use Rattle.lot_trim.specs.Kept.{kept_contours}
use Rattle.lot_trim.specs.Run.{end_of_contours, outline_lengths}
use Rattle.lot_trim.proofs.Runs.{part_of_one}
use Rattle.lot_trim.proofs.trim.trim_alone.Goals as goal

pub returns : goal.returns
returns c =
    let some : width_of c.args.cut ≢ 0 = λ e. c.if-width-eq0.false (c.width-width.ensures.value ∙ e) in
    let part : width_of c.args.cut ≢ whole_run = λ e. c.if-width-eq-WHOLE_RUN.false (c.width-width.ensures.value ∙ e) in
    let kept : c.in_ok-contours.contours
    ≡ kept_contours (kept_intervals c.args.cut (end_of_contours 0 (outline_lengths c.args.o.now))) 0 c.args.o.now.contours =
    search rules in
    part_of_one c.args.cut c.args.o.now c.in_ok-contours.contours some part kept
