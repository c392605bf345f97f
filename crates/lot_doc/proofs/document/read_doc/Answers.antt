use Rattle.std.proofs.Common.{rules}
use Rattle.lot_types.specs.declared.read.Read.{Read}
use Rattle.lot_doc.specs.Build.{IsReadOf}
use Rattle.lot_doc.specs.Root.{document}
use Rattle.lot_doc.proofs.WellFormed.{value_is_well_formed}
use Rattle.lot_doc.proofs.document.read_doc.Goals as goal

pub returns-clause-well_formed : goal.returns-clause-well_formed
returns-clause-well_formed c =
    let r : Read = record { doc = c.in_ok-doc.doc; uses = c.read.new.uses } in
    let read : IsReadOf r (document c.args.j.now) = search rules in
    value_is_well_formed c.args.j.now r read.value
