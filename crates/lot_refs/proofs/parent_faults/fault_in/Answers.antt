use Rattle.std.proofs.Common.{List, ap, sym, ◌∙◌}
use Rattle.lot_types.specs.declared.layer.Layer.{Layer}
use Rattle.lot_refs.specs.declared.ref_fault.RefFault.{RefFault}
use Rattle.lot_refs.specs.RefFaults.{first_found, layer_faults}
use Rattle.lot_refs.proofs.FirstFaults.{as_given, first_in_layers}
use Rattle.lot_refs.proofs.parent_faults.fault_in.Goals as goal

pub returns-in-Some : goal.returns-in-Some
returns-in-Some c =
    let l = c.loop-l.l in
    let x : Layer = c.index-layers-l.result in
    let layers : List Layer = c.args.layers.now in
    let less = c.loop-l-test.true in
    first_in_layers c.args.c layers l x c.in-Some.found less c.loop-l.invariant (
    ap (λ (y : Layer). first_found (layer_faults c.args.c layers l y)) (sym c.index-layers-l.is)
    ∙ ap (λ (fs : List RefFault). first_found fs)
    (as_given c.args.c layers l x c.args.links.now c.args.on_circle.now less c.requires.links c.requires.circles)
    ∙ c.fault_of.ensures
    ∙ c.in-Some.is)
