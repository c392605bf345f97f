-- What a document says: the table of the members of the whole animation. The members are those of the Lottie
-- Specification 1.0, "Animation"; which of them are read, and the order of their faults, is this project's own.
use Rattle.std.specs.Prelude.{ℕ, ℤ, int_lt, List, [], ◌∷◌, None, codes, if◌then◌else◌}
use Rattle.lot_types.specs.declared.fault.FaultCode.TheVariants.{Order}
use Rattle.lot_types.specs.declared.comp.Comp.{Comp}
use Rattle.lot_types.specs.declared.doc.Doc.{Doc}
use Rattle.lot_types.specs.declared.layer.Layer.{Layer}
use Rattle.lot_types.specs.Limits.{max_layers}
use Rattle.lot_json.specs.declared.tree.json.Json.{Json}
use Rattle.lot_json.specs.declared.tree.pointer.Step.{Step}
use Rattle.lot_read.specs.Findings.{Findings, Row, under, good, bad, ◌⊛◌, ◌also◌, ◌then◌}
use Rattle.lot_read.specs.Lists.{list}
use Rattle.lot_read.specs.Number.{any, not_below_zero, above_zero, number}
use Rattle.lot_read.specs.Rows.{needed, optional, unbuilt, object}
use Rattle.lot_read.specs.SlotNames.{Names}
use Rattle.lot_doc.specs.declared.root.Size.{Size}
use Rattle.lot_doc.specs.declared.running_time.RunningTime.{RunningTime}
use Rattle.lot_doc.specs.Feature.{asset_rows}
use Rattle.lot_doc.specs.Layer.{typed_layer_rows}

-- The greatest number of assets.
abbrev pub max_assets : ℕ
max_assets = 1024

-- An animation ends after its start.
abbrev pub in_order : List Step → RunningTime → Findings RunningTime
in_order at time = if int_lt time.ip time.op then good time else bad Order (under at (codes "op"))

unfoldable pub running_time_rows : Row RunningTime
running_time_rows at m =
    (good (λ ip op. record { ip = ip; op = op })
    ⊛ needed (codes "ip") (number any) at m
    ⊛ needed (codes "op") (number any) at m)
    then in_order at

-- The main composition, which has no name.
abbrev pub comp_of_layers : List Layer → Comp
comp_of_layers layers = record { id = None; layers = layers }

-- The width and the height of the animation.
unfoldable pub size_rows : Row Size
size_rows at m =
    good (λ w h. record { w = w; h = h })
    ⊛ needed (codes "w") (number not_below_zero) at m
    ⊛ needed (codes "h") (number not_below_zero) at m

-- What layers may name: slots, which are not built yet, and assets.
unfoldable pub resource_rows : Row (Unit {0})
resource_rows at m =
    good tt
    also unbuilt (codes "slots") at m
    also optional (codes "assets") (list max_assets (object asset_rows)) [] at m

-- The document of this size, frame rate and time whose one composition has these layers. It has no slots.
abbrev pub doc_of : Size → ℤ → RunningTime → List Layer → Doc
doc_of size fr time layers = record {
  w = size.w;
  h = size.h;
  fr = fr;
  ip = time.ip;
  op = time.op;
  slots = [];
  comps = comp_of_layers layers ∷ [];
}

-- The whole animation.
unfoldable pub root_rows : Names → Row Doc
root_rows names at m =
    good (λ size fr time layers. doc_of size fr time layers)
    ⊛ size_rows at m
    ⊛ needed (codes "fr") (number above_zero) at m
    ⊛ running_time_rows at m
    also resource_rows at m
    ⊛ needed (codes "layers") (list max_layers (object (typed_layer_rows names))) at m

-- A document. It has no slots yet.
abbrev pub document : Json → Findings Doc
document j = object (root_rows []) [] j
