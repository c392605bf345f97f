-- The SVG of a document at a time, evaluated from scratch. It has none where a layer that it shows has no value then.
use Rattle.std.specs.Prelude.{ℕ, ℤ, List, Option, option_map}
use Rattle.lot_comp.specs.Frame.{finished_frame}
use Rattle.lot_svg.specs.Svg.{svg_text}
use Rattle.lot_types.specs.declared.doc.Doc.{Doc}
use Rattle.lot_types.specs.declared.piece.Piece.{Piece}
use Rattle.lot_types.specs.Frame.{Frame}

-- The text of a finished frame of a document.
abbrev pub picture_text : Doc → Frame Piece → List ℕ
picture_text d f = svg_text d.w d.h (λ p. p) f

unfoldable pub svg_of : Doc → ℤ → Option (List ℕ)
svg_of d t = option_map (picture_text d) (finished_frame d t)
