use Rattle.std.proofs.Common.{◌≡◌, ◌∙◌, ◌<◌, ◌≤◌, ◌++◌, get_or, length, ap, refl, rules}
use Rattle.lot_geom.specs.Lengths.{segment_lengths, curve_of}
use Rattle.lot_trim.specs.Kept.{part_in}
use Rattle.lot_trim.specs.Run.{length_sum}
use Rattle.lot_trim.proofs.Steps.{part_more, no_part_left, curve_belongs}
use Rattle.lot_trim.proofs.placed_contour.PlacedContour.put_parts.Goals as goal

pub loop-k-init : goal.loop-k-init
unfolding segment_lengths
loop-k-init c = record { parts = refl; lengths = c.requires.lengths; small = c.requires.start }

pub loop-k-preserved : goal.loop-k-preserved
loop-k-preserved c =
    let segs = c.args.self.now.contour.now.segs in
    let s = c.s-item.result in
    let k = c.loop-k.k in
    let start = c.loop-k.from in
    let lt : k < length segs = search rules in
    let at : s ≡ get_or segs k s = search rules in
    let here = curve_belongs c.loop-k.at segs c.args.self.now.lengths.now k s 0 lt at c.loop-k.invariant.lengths in
    let grown : c.put_part.new.parts.items ≡ c.loop-k.parts.items ++ part_in c.args.i start (curve_of c.loop-k.at s) =
    search rules in
    record {
      parts =
          part_more c.args.i start c.length_sum-from.result c.loop-k.at segs c.loop-k.parts.items c.put_part.new.parts.items
          _ k s lt at grown (c.length_sum-from.ensures.value ∙ ap (length_sum start) here.0) c.loop-k.invariant.parts;
      lengths = here.1;
      small = c.length_sum-from.ensures.small;
    }

pub returns : goal.returns
returns c =
    let segs = c.args.self.now.contour.now.segs in
    let le : length segs ≤ c.loop-k.k = search rules in
    no_part_left c.args.i c.loop-k.from c.loop-k.at segs c.loop-k.parts.items _ c.loop-k.k le c.loop-k.invariant.parts
