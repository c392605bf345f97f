use Rattle.std.proofs.Common.{◌≡◌, ◌++◌, map, length, Some, ap, ◌∙◌}
use Rattle.lot_group.specs.Outlines.{outlines_of}
use Rattle.lot_group.specs.Painting.{paintings_of}
use Rattle.lot_group.specs.Pass.{present_painting, placed}
use Rattle.lot_group.proofs.Finish.{placed-top, collected-is, all-within, all-lead}
use Rattle.lot_group.proofs.Ranges.{all-ranged}
use Rattle.lot_group.proofs.TrimOrder.{trims-inner_first}
use Rattle.lot_group.proofs.collected.collect.Goals as goal

leaves-are : (c : goal.After-into_collected) →
    map Some c.into_collected.result.leaves ≡ outlines_of c.args.d.now c.args.t c.args.items.now
leaves-are c =
    let made = c.new-pass.ensures in
    let o = c.in_ok-visit.ensures.outlines in
    ap (map Some) c.into_collected.ensures.leaves ∙
    (o ∙ (λ i. map Some (made.outlines i) ++ outlines_of c.args.d.now c.args.t (c.items.ensures i)))

styles-are : (c : goal.After-into_collected) →
    map present_painting c.into_collected.result.styles ≡ paintings_of c.args.d.now c.args.t c.args.items.now
styles-are c =
    let made = c.new-pass.ensures in
    let p = c.in_ok-visit.ensures.styles in
    ap (map present_painting) c.into_collected.ensures.styles ∙
    (p ∙ ((λ i. map present_painting (made.styles i) ++
    map (placed record { place = made.place i; matrices = made.matrices i; opacities = made.opacities i }
    (length (made.outlines i))) (paintings_of c.args.d.now c.args.t (c.items.ensures i))) ∙
    placed-top (paintings_of c.args.d.now c.args.t c.args.items.now)))

pub returns-clause-value : goal.returns-clause-value
returns-clause-value c =
    collected-is c.args.d.now c.args.t c.args.items.now c.into_collected.result (leaves-are c) (styles-are c)

pub returns-clause-within : goal.returns-clause-within
returns-clause-within c =
    all-within c.args.d.now c.args.t c.args.items.now c.into_collected.result (leaves-are c) (styles-are c)

pub returns-clause-styles : goal.returns-clause-styles
returns-clause-styles c =
    all-lead c.args.d.now c.args.t c.args.items.now c.into_collected.result c.requires (styles-are c)

pub returns-clause-order : goal.returns-clause-order
returns-clause-order c = trims-inner_first c.args.items.now

pub returns-in_err-visit-clause-order : goal.returns-in_err-visit-clause-order
returns-in_err-visit-clause-order c = trims-inner_first c.args.items.now

pub returns-clause-ranges : goal.returns-clause-ranges
returns-clause-ranges c = all-ranged c.args.items.now

pub returns-in_err-visit-clause-ranges : goal.returns-in_err-visit-clause-ranges
returns-in_err-visit-clause-ranges c = all-ranged c.args.items.now
