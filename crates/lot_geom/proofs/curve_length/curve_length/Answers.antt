use Rattle.lot_geom.specs.Lengths.{measuring_chords}
use Rattle.lot_geom.proofs.Measured.{none_passed, one_passed}
use Rattle.lot_geom.proofs.curve_length.curve_length.Goals as goal

pub loop-k-init : goal.loop-k-init
loop-k-init c = none_passed c.args.c.now measuring_chords c.chord_end-at.result c.chord_end-at.ensures

pub loop-k-preserved : goal.loop-k-preserved
loop-k-preserved c =
    one_passed c.args.c.now measuring_chords c.loop-k.length c.pass_chord-length.result c.loop-k.k
    c.loop-k.at c.pass_chord-length.new.at
    c.loop-k.invariant c.pass_chord-length.ensures.length c.pass_chord-length.ensures.short c.pass_chord-length.ensures.end
