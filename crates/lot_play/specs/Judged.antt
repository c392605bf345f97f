-- What is wrong with a document: the faults of its tables, and, where there are none, those of its references.
use Rattle.std.specs.Prelude.{List, [], Some}
use Rattle.lot_types.specs.declared.doc.Doc.{Doc}
use Rattle.lot_types.specs.declared.slot.Use.{Use}
use Rattle.lot_json.specs.declared.tree.json.Json.{Json}
use Rattle.lot_read.specs.Findings.{Findings, ◌then◌}
use Rattle.lot_doc.specs.Root.{document}
use Rattle.lot_refs.specs.RefFaults.{ref_faults}

-- The faults of the references of a document, which was read with these uses of slots.
abbrev pub referenced : List Use → Doc → Findings Doc
referenced uses d = record { faults = ref_faults (record { doc = d; uses = uses }); value = Some d; uses = [] }

-- A document, or all its faults.
abbrev pub judged : Json → Findings Doc
judged j = document j then referenced (document j).uses
