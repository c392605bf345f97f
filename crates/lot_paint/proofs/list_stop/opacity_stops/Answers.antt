use Rattle.std.proofs.Common.{rules, ◌≡◌, ◌∙◌, ◌+◌, ap₂, sym}
use Rattle.lot_paint.specs.Dashes.{at_least}
use Rattle.lot_paint.specs.Stops.{opacity_numbers, numbers_of_colors, greatest_offset}
use Rattle.lot_paint.proofs.Raised.{greatest_none, greatest_more, opacity_made, opacities_made}
use Rattle.lot_paint.proofs.list_stop.opacity_stops.Goals as goal

pub loop-k-init : goal.loop-k-init
loop-k-init c =
    let start = numbers_of_colors c.args.g.now in
    record { made = search rules; offset = greatest_none c.args.g.now.flat start opacity_numbers }

pub loop-k-preserved : goal.loop-k-preserved
loop-k-preserved c =
    let flat = c.args.g.now.flat in
    let start = numbers_of_colors c.args.g.now in
    let k = c.loop-k.k in
    let offset : c.at_least-offset.result ≡ greatest_offset flat start opacity_numbers (k + 1) =
    c.at_least-offset.ensures ∙ ap₂ at_least c.loop-k.invariant.offset (search rules)
    ∙ sym (greatest_more flat start opacity_numbers k) in
    record {
      made = c.in_ok-push.ensures.ok
          ∙ opacity_made flat start k c.loop-k.made c.at_least-offset.result c.number_at-value.result
          c.loop-k.invariant.made offset (search rules);
      offset = offset;
    }

pub returns : goal.returns
returns c =
    opacities_made c.args.g.now c.loop-k.k c.loop-k.made c.loop-k.invariant.made (search rules)
