use Rattle.lot_group.proofs.Limits.{values-at, transform-values}
use Rattle.lot_group.proofs.group.placement_of.Goals as goal

pub matrix_at-requires : goal.matrix_at-requires
matrix_at-requires c =
    transform-values c.args.d.now c.in-Some.ks.now c.item-item.result c.in-Some.ensures.some
    (values-at c.args.d.now c.args.items.now c.loop-item.item-index c.item-item.result c.requires
    c.loop-item-test.true c.item-item.is)

pub opacity_at-requires : goal.opacity_at-requires
opacity_at-requires c =
    (transform-values c.args.d.now c.in-Some.ks.now c.item-item.result c.in-Some.ensures.some
    (values-at c.args.d.now c.args.items.now c.loop-item.item-index c.item-item.result c.requires
    c.loop-item-test.true c.item-item.is)).opacity
