use Rattle.std.proofs.Common.{arith}
use Rattle.lot_geom.proofs.Chords.{none_measured, next_measured}
use Rattle.lot_geom.proofs.arc_length.measure.Goals as goal

pub loop-k-init : goal.loop-k-init
loop-k-init c = none_measured c.args.c.now c.args.lengths.now c.chord_end-at.result c.chord_end-at.ensures

pub loop-k-preserved : goal.loop-k-preserved
loop-k-preserved c =
    next_measured c.args.c.now c.loop-k.lengths c.loop-k.total c.pass_chord-length.result c.loop-k.k
    c.loop-k.at c.pass_chord-length.new.at
    (omega arith) c.loop-k.invariant c.pass_chord-length.ensures.length
    c.pass_chord-length.ensures.short c.pass_chord-length.ensures.end
