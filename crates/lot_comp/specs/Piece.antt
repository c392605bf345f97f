-- A layer of a composition at a time, evaluated from scratch. Whether it is visible plays no part.
use Rattle.std.specs.Prelude.{◌≡◌, ℕ, ℤ, pos, ◌^◌, true, false, List, [], ◌∷◌, Option, Some, None, option_and_then}
use Rattle.lot_comp.specs.Full.{layer_at, full_matrix}
use Rattle.lot_comp.specs.Shape.{shape_paints}
use Rattle.lot_geom.specs.Matrix.{identity}
use Rattle.lot_prop.specs.Transform.{opacity_value}
use Rattle.lot_types.specs.declared.brush.Brush.TheVariants.{Fill}
use Rattle.lot_types.specs.declared.contour.Contour.{Contour}
use Rattle.lot_types.specs.declared.doc.Doc.{Doc}
use Rattle.lot_types.specs.declared.ink.Ink.TheVariants.{Flat}
use Rattle.lot_types.specs.declared.layer.Layer.{Layer}
use Rattle.lot_types.specs.declared.layer.LayerKind.{LayerKind}
use Rattle.lot_types.specs.declared.layer.LayerKind.TheVariants as kind
use Rattle.lot_types.specs.declared.mask.Mask.{Mask}
use Rattle.lot_types.specs.declared.matrix.Matrix.{Matrix}
use Rattle.lot_types.specs.declared.matte.Matte.{Matte}
use Rattle.lot_types.specs.declared.matte.Matte.TheVariants.{No, Alpha, AlphaInv, Luma, LumaInv}
use Rattle.lot_types.specs.declared.paint.Paint.{Paint}
use Rattle.lot_types.specs.declared.piece.Piece.{Piece}
use Rattle.lot_types.specs.declared.rgb.Rgb.{Rgb}
use Rattle.lot_types.specs.Points.{point}
use Rattle.lot_types.specs.Segments.{straight}

-- The closed contour (0, 0), (w, 0), (w, h), (0, h).
abbrev pub solid_contour : ℤ → ℤ → Contour
solid_contour w h =
    let a = point (pos 0) (pos 0) in let b = point w (pos 0) in let c = point w h in let d = point (pos 0) h in
    record { closed = true; start = a; segs = straight a b ∷ straight b c ∷ straight c d ∷ straight d a ∷ [] }

-- A rectangle that is filled with a color.
abbrev pub solid_paint : ℤ → ℤ → Rgb → Paint
solid_paint w h rgb = record {
  ink = Flat rgb;
  brush = Fill false;
  opacity = pos (10 ^ 6);
  matrix = identity;
  contours = solid_contour w h ∷ [];
}

-- What a layer shows at a time. Compositions are not evaluated yet.
abbrev pub paints_of : Doc → ℤ → LayerKind → Option (List Paint)
paints_of d t (kind.Solid w h rgb) = Some (solid_paint w h rgb ∷ [])
paints_of d t kind.Null = Some []
paints_of d t (kind.Precomp name w h st sr tm) = None
paints_of d t (kind.Shape items) = shape_paints d t items

-- A layer without masks.
abbrev pub unmasked : Matrix → ℤ → List Paint → Piece
unmasked m opacity paints = record {
  matrix = m;
  opacity = opacity;
  paints = paints;
  masked = false;
  white = false;
  masks = [];
  remap = None;
}

-- The parts of a piece, where there are all.
abbrev pub piece_with : Option Matrix → Option ℤ → Option (List Paint) → Option Piece
piece_with (Some m) (Some opacity) (Some paints) = Some (unmasked m opacity paints)
piece_with (Some m) (Some opacity) None = None
piece_with (Some m) None paints = None
piece_with None opacity paints = None

-- Masks are not evaluated yet.
abbrev pub without_masks : List Mask → Option Piece → Option Piece
without_masks [] evaluated = evaluated
without_masks (mask ∷ masks) evaluated = None

-- Neither are layers with a matte.
abbrev pub without_matte : Matte → Option Piece → Option Piece
without_matte No evaluated = evaluated
without_matte Alpha evaluated = None
without_matte AlphaInv evaluated = None
without_matte Luma evaluated = None
without_matte LumaInv evaluated = None

abbrev pub piece_of_layer : Doc → ℕ → ℕ → ℤ → Layer → Option Piece
piece_of_layer d c l t layer =
    without_matte layer.matte (without_masks layer.masks
    (piece_with (full_matrix d c l t) (opacity_value d layer.ks.o t) (paints_of d t layer.kind)))

-- Layer l of composition c at a time.
unfoldable pub piece_of : Doc → ℕ → ℕ → ℤ → Option Piece
piece_of d c l t = option_and_then (piece_of_layer d c l t) (layer_at d c l)

-- Masks are not drawn yet.
abbrev pub IsUnmasked : Piece → Type 0
IsUnmasked p = p.masked ≡ false
