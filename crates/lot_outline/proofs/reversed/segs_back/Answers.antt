use Rattle.std.proofs.Common.{◌≡◌, ◌∙◌, ◌-◌, ◌++◌, ◌∷◌, [], ℕ, List, take, ap, sym, arith, rules, append-nil}
use Rattle.lot_types.specs.declared.point.Point.{Point}
use Rattle.lot_types.specs.declared.seg.Seg.{Seg}
use Rattle.lot_outline.specs.Reversed.{end_of, seg_back, segs_back}
use Rattle.lot_outline.proofs.Backwards.{one_back}
use Rattle.lot_outline.proofs.reversed.segs_back.Goals as goal

pub loop-at-preserved : goal.loop-at-preserved
loop-at-preserved c =
    let k = c.loop-at.at in
    let pushed : c.push.new.self ≡ c.loop-at.made ++ c.seg_back.result ∷ [] = search rules in
    let end : c.end_of-end.result ≡ end_of c.args.p.now (take (k - 1) c.args.segs.now) = search rules in
    let back : c.seg_back.result ≡ seg_back c.end_of-end.result c.index-segs-at.result = search rules in
    record {
      within = omega (arith, c.loop-at.invariant.within);
      made =
          ap (λ (xs : List Seg). xs ++ segs_back c.args.p.now (take (k - 1) c.args.segs.now)) pushed
          ∙ one_back c.args.p.now c.args.segs.now c.loop-at.made k c.index-segs-at.result c.index-segs-at.result
          c.seg_back.result (omega arith) (omega (arith, c.loop-at.invariant.within)) c.index-segs-at.is
          (back ∙ ap (λ (q : Point). seg_back q c.index-segs-at.result) end) c.loop-at.invariant.made;
    }

pub returns : goal.returns
unfolding segs_back
returns c =
    let none : c.loop-at.at ≡ 0 = omega arith in
    sym (append-nil c.loop-at.made)
    ∙ ap (λ (n : ℕ). c.loop-at.made ++ segs_back c.args.p.now (take n c.args.segs.now)) (sym none)
    ∙ c.loop-at.invariant.made
