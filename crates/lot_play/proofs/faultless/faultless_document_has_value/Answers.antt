use Rattle.std.proofs.Common.{List, refl}
use Rattle.lot_types.specs.declared.doc.Doc.{Doc}
use Rattle.lot_types.specs.declared.slot.Use.{Use}
use Rattle.lot_doc.proofs.FaultlessTables.{document_sound}
use Rattle.lot_doc.specs.Root.{document}
use Rattle.lot_read.proofs.Sound.{then_sound}
use Rattle.lot_read.specs.Sound.{IsSound}
use Rattle.lot_play.specs.Judged.{referenced}
use Rattle.lot_play.proofs.faultless.faultless_document_has_value.Goals as goal

referenced_sound : (uses : List Use) (d : Doc) → IsSound (referenced uses d)
referenced_sound uses d = record { some = λ _. refl }

pub returns : goal.returns
returns c = λ j. then_sound _ (document_sound j) (λ d. referenced_sound (document j).uses d)
