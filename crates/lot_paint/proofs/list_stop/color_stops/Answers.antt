use Rattle.std.proofs.Common.{rules, ◌≡◌, ◌∙◌, ◌+◌, ◌<◌, List, length, ap₂, sym, subst}
use Rattle.lot_paint.specs.Dashes.{at_least}
use Rattle.lot_paint.specs.Stops.{color_numbers, greatest_offset}
use Rattle.lot_paint.proofs.Raised.{greatest_none, greatest_more, color_made, colors_made}
use Rattle.lot_paint.proofs.Reached.{some_colors}
use Rattle.lot_types.specs.declared.color.Color.{Color}
use Rattle.lot_types.specs.Ramp.{Ramp}
use Rattle.lot_paint.specs.declared.list_stop.ListStop.{ListStop}
use Rattle.lot_paint.proofs.list_stop.color_stops.Goals as goal

pub loop-k-init : goal.loop-k-init
loop-k-init c = record { made = search rules; offset = greatest_none c.args.g.now.flat 0 color_numbers }

pub loop-k-preserved : goal.loop-k-preserved
loop-k-preserved c =
    let flat = c.args.g.now.flat in
    let k = c.loop-k.k in
    let offset : c.at_least-offset.result ≡ greatest_offset flat 0 color_numbers (k + 1) =
    c.at_least-offset.ensures ∙ ap₂ at_least c.loop-k.invariant.offset (search rules)
    ∙ sym (greatest_more flat 0 color_numbers k) in
    record {
      made = c.in_ok-push.ensures.ok
          ∙ color_made flat k c.loop-k.made c.at_least-offset.result c.color_from-value.result c.loop-k.invariant.made
          offset (search rules);
      offset = offset;
    }

made : goal.returns-clause-value
made c = colors_made c.args.g.now c.loop-k.k c.loop-k.made c.loop-k.invariant.made (search rules)

pub returns-clause-value : goal.returns-clause-value
returns-clause-value c = made c

pub returns-clause-some : goal.returns-clause-some
returns-clause-some c =
    let some = subst (λ (r : Ramp). 0 < r.stops) c.g.view_is c.g.invariant.some in
    subst (λ (l : List (ListStop Color)). 0 < length l) (sym (made c)) (some_colors c.args.g.now some)
