use Rattle.std.proofs.Common.{◌≡◌, ◌+◌, ◌≤◌, ◌&&◌, length, nat_eq, arith, sym, ap, ◌∙◌, Bool}
use Rattle.lot_svg.proofs.Segments.{kept_more, none_left}
use Rattle.lot_svg.proofs.writer.Writer.put_segments.Goals.{then-closed, else-closed}
use Rattle.lot_svg.proofs.writer.Writer.put_segments.Goals as goal

pub loop-i-preserved : goal.loop-i-preserved
loop-i-preserved c =
    let lt = c.loop-i-test.true in
    let last = nat_eq (c.loop-i.i + 1) (length c.args.segs.now) in
    let closes : c.if-closed.put_kept ≡ (c.args.closed && last) =
    elim c.if-closed.branch [
      | then-closed w ↦ w.put_kept-is ∙ ap (λ (b : Bool). b && last) (sym w.if-closed.true)
      | else-closed w ↦ w.put_kept-is ∙ w.if-closed.false ∙ ap (λ (b : Bool). b && last) (sym w.if-closed.false)
    ] in
    let within : c.loop-i.i + 1 ≤ length c.args.segs.now = omega (arith, lt) in (
      within,
      kept_more c.args.closed _ c.loop-i.from.now c.args.segs.now c.loop-i.i c.index-segs-i.result _ _ _
          lt c.index-segs-i.is closes c.in_ok-put_kept.ensures c.loop-i.invariant.1,
    )

pub returns : goal.returns
returns c =
    none_left c.args.closed c.loop-i.from.now c.args.segs.now c.loop-i.i _ _ c.loop-i-test.false c.loop-i.invariant.1
