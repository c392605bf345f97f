use Rattle.std.proofs.Common.{arith, subst, ◌≡◌, ℕ}
use Rattle.lot_geom.specs.Lengths.{curve_length, measuring_chords}
use Rattle.lot_geom.proofs.Measured.{none_passed, one_passed, NoneReaches, none_reaches, one_more, not_past_the_end}
use Rattle.lot_geom.proofs.part.ChordAt.of.Goals as goal

pub loop-before-init : goal.loop-before-init
loop-before-init c = record {
  passed = none_passed c.args.c.now measuring_chords c.chord_end-at.result c.chord_end-at.ensures;
  first = none_reaches c.args.c.now measuring_chords c.args.x;
}

pub loop-before-preserved : goal.loop-before-preserved
loop-before-preserved c = record {
  passed =
      one_passed c.args.c.now measuring_chords c.loop-before.start c.pass_chord-length.result c.loop-before.before
      c.loop-before.at c.pass_chord-length.new.at
      c.loop-before.invariant.passed c.pass_chord-length.ensures.length c.pass_chord-length.ensures.short
      c.pass_chord-length.ensures.end;
  first =
      one_more c.args.c.now measuring_chords c.args.x c.loop-before.before c.loop-before.start c.pass_chord-length.result
      c.loop-before.invariant.first c.loop-before.invariant.passed.sum c.pass_chord-length.ensures.length
      c.if-x-start.false;
}

pub unreachable-requires : goal.unreachable-requires
unfolding curve_length
unreachable-requires c =
    let all : c.loop-before.before ≡ measuring_chords = omega (arith, c.loop-before-test.false, c.loop-before.auto.before-end) in
    not_past_the_end c.args.c.now 63 c.args.x
    (subst (λ (n : ℕ). NoneReaches c.args.c.now measuring_chords c.args.x n) all c.loop-before.invariant.first)
    c.requires.within
