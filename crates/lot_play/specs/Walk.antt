-- What the walk over the layers of a frame has written. These serve private clauses: what the text of a frame is, says
-- Picture alone.
use Rattle.std.specs.Prelude.{false, fold, Option, None, option_map}
use Rattle.lot_comp.specs.Frame.{evaluated_frame, piece_at}
use Rattle.lot_svg.specs.Written.{Written, write, open_layer, paint, close_layer}
use Rattle.lot_types.specs.declared.doc.Doc.{Doc}
use Rattle.lot_types.specs.declared.piece.Piece.{Piece}
use Rattle.lot_types.specs.Frame.{Frame, Visit}

-- After the layers of a frame, where all can be evaluated.
abbrev pub after_frame : Doc → Frame Visit → Written → Option Written
after_frame d f s = option_map (λ finished. write (λ p. p) finished s) (evaluated_frame (piece_at d) f)

-- After a layer without a matte.
abbrev pub after_piece : Piece → Written → Written
after_piece p s = close_layer false (fold paint (open_layer None p s) p.paints)
