-- What each call of the writer does to what it has written. These serve the clauses of the writer: what a frame's text
-- is, says Svg alone.
use Rattle.std.specs.Prelude.{ℕ, ℤ, ◌+◌, Bool, List, [], ◌++◌, fold, Option}
use Rattle.lot_types.specs.declared.matte.Matte.{Matte}
use Rattle.lot_types.specs.declared.piece.Piece.{Piece}
use Rattle.lot_types.specs.declared.paint.Paint.{Paint}
use Rattle.lot_types.specs.Frame.{Frame, nothing, node, ClipSize}
use Rattle.lot_svg.specs.Items.{Item, plain, opens, ends, refers, bytes_of}
use Rattle.lot_svg.specs.Paint.{paint_items}
use Rattle.lot_svg.specs.Matte.{has_matte, matte_opening, matte_closing, mask_of, mask_use}
use Rattle.lot_svg.specs.Layer.{group_opening, clip_opening, clip_closing, layer_closing}
use Rattle.lot_svg.specs.Svg.{head_text, tail_text}

-- The bytes, and the number of the next identifier.
pub record Written : Type 0 where
  pub bytes : List ℕ
  pub next : ℕ

abbrev pub unwritten : Written
unwritten = record { bytes = []; next = 1 }

-- More bytes, which open no definition.
unfoldable pub append : Written → List ℕ → Written
append s bytes = record { bytes = s.bytes ++ bytes; next = s.next }

-- One more item.
abbrev pub put : Written → Item → Written
put s (plain bytes) = append s bytes
put s (opens before n) = record { bytes = s.bytes ++ bytes_of (opens before n); next = s.next + 1 }
put s (ends bytes n) = append s bytes
put s (refers before n) = append s (bytes_of (refers before n))

abbrev pub add : List Item → Written → Written
add items s = fold put s items

-- The calls of the writer.
abbrev pub begin : ℤ → ℤ → Written → Written
begin w h s = put s (plain (head_text w h))

abbrev pub open_matte : Matte → Written → Written
open_matte kind s = add (matte_opening kind s.next) s

-- The end of a mask does not have its number in it.
abbrev pub close_matte : Matte → Written → Written
close_matte kind s = add (matte_closing kind 0) s

abbrev pub open_group : Piece → Written → Written
open_group p s = add (group_opening p s.next) s

abbrev pub open_layer : Option ℕ → Piece → Written → Written
open_layer mask p s = open_group p (add (mask_use mask) s)

abbrev pub paint : Written → Paint → Written
paint s p = add (paint_items p s.next) s

abbrev pub close_layer : Bool → Written → Written
close_layer matte s = add (layer_closing matte) s

abbrev pub open_clip : Option ClipSize → Written → Written
open_clip clip s = add (clip_opening clip s.next) s

abbrev pub close_clip : Option ClipSize → Written → Written
close_clip clip s = add (clip_closing clip) s

-- A layer after its matte, with what `inside` writes of its composition.
abbrev pub write_layer : Option ℕ → Bool → Piece → Option ClipSize → (Written → Written) → Written → Written
write_layer mask matte p clip inside s =
    close_layer matte (close_clip clip (inside (open_clip clip (fold paint (open_layer mask p s) p.paints))))

-- The calls for the layers of a frame.
abbrev pub write : {A : Type 0} → (A → Piece) → Frame A → Written → Written
write piece nothing s = s
write piece (node at kind matte clip inner rest) s =
    write piece rest (
    write_layer (mask_of kind s.next) (has_matte kind) (piece at) clip (write piece inner)
    (close_matte kind (write piece matte (open_matte kind s))))

-- The text, with the end of the root element.
abbrev pub finish : Written → List ℕ
finish s = s.bytes ++ tail_text
