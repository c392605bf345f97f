-- Texts.
use Rattle.std.specs.Prelude.{ℕ, List}
use Rattle.lot_types.specs.declared.fault.FaultCode.TheVariants.{Kind}
use Rattle.lot_json.specs.declared.tree.json.Json.{out-Json}
use Rattle.lot_json.specs.declared.tree.json.Json.TheOpen as tree
use Rattle.lot_read.specs.Findings.{Reader, good, bad}

-- A text, as its bytes.
unfoldable pub text : Reader (List ℕ)
text at j = elim (out-Json j) [ tree.Text t ↦ good t | _ ↦ bad Kind at ]
