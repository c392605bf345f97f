use Rattle.std.proofs.Common.{◌≡◌, ◌∙◌, ◌<◌, ◌≤◌, ◌++◌, [], map, drop, fold, get_or, length, sym, ap, rules}
use Rattle.std.proofs.lemmas.List.{at_drop_all}
use Rattle.lot_geom.specs.Lengths.{segment_lengths}
use Rattle.lot_trim.specs.Kept.{kept_of}
use Rattle.lot_trim.specs.Run.{end_of_segments, end_of_contours}
use Rattle.lot_trim.proofs.Steps.{belongs, summed_more, contour_more, no_contour_left}
use Rattle.lot_trim.proofs.outline.kept_contours.Goals as goal

pub loop-k-preserved : goal.loop-k-preserved
loop-k-preserved c =
    let before = c.loop-k.invariant in
    let contours = c.args.o.now.contours in
    let contour = c.c-item.result in
    let start = c.loop-k.start in
    let k = c.loop-k.k in
    let lt : k < length contours = search rules in
    let at : contour ≡ get_or contours k contour = search rules in
    let here = belongs segment_lengths contours c.items-lengths.result.now k contour
    c.index-lengths-k.result lt at c.index-lengths-k.is before.lengths in
    let grown : c.put_kept.new.made ≡ c.loop-k.made ++ kept_of c.args.intervals.now start contour = search rules in
    let summed : c.end.result ≡ end_of_segments start c.index-lengths-k.result = search rules in
    record {
      kept =
          contour_more c.args.intervals.now start c.end.result contours c.loop-k.made c.put_kept.new.made _ k contour
          lt at grown (summed ∙ ap (end_of_segments start) here.here) before.kept;
      lengths = here.after;
      end =
          summed_more end_of_segments start c.end.result _ c.items-lengths.result.now k c.index-lengths-k.result
          here.within c.index-lengths-k.is summed before.end;
      small = c.end.ensures.small;
    }

pub returns-clause-kept : goal.returns-clause-kept
returns-clause-kept c =
    let contours = c.args.o.now.contours in
    let le : length contours ≤ c.loop-k.k = search rules in
    no_contour_left c.args.intervals.now c.loop-k.start contours c.loop-k.made _ c.loop-k.k le c.loop-k.invariant.kept

pub returns-clause-end : goal.returns-clause-end
unfolding end_of_contours
returns-clause-end c =
    let contours = c.args.o.now.contours in
    let start = c.loop-k.start in
    let le : length contours ≤ c.loop-k.k = search rules in
    let none : drop c.loop-k.k c.items-lengths.result.now ≡ [] =
    c.loop-k.invariant.lengths ∙ at_drop_all (map segment_lengths) contours c.loop-k.k le in
    sym (ap (fold end_of_segments start) none) ∙ c.loop-k.invariant.end
    ∙ ap (fold end_of_segments c.args.start.now) c.items-lengths.ensures
