use Rattle.std.proofs.Common.{◌≡◌, ◌≤◌, length, map, reverse, take, Some}
use Rattle.lot_group.specs.Product.{map_product, map_product_from}
use Rattle.lot_group.proofs.product.product_from_last.Given as goal

abbrev pub invariant-loop-i : goal.invariant-loop-i
invariant-loop-i l = record {
  within : l.i ≤ length l.factors;
  product : map_product_from (Some l.product) (map Some (reverse (take l.i l.factors))) ≡ map_product
      (map Some (reverse l.factors));
}

abbrev pub decreases-loop-i : goal.decreases-loop-i
decreases-loop-i l = l.i
