-- One layer more is written.
use Rattle.std.proofs.Common.{◌≡◌, ℕ, ℤ, ◌+◌, ◌≤◌, List, ◌∷◌, length, arith, true, false, Bool, Option, None, Some, option_map, refl, sym, ap, ◌∙◌, if◌then◌else◌}
use Rattle.lot_comp.specs.Frame.{evaluated_frame, node_with, piece_at, node_of, with_layer, is_visible, nodes}
use Rattle.lot_comp.specs.Full.{layer_at}
use Rattle.lot_comp.specs.Piece.{piece_of}
use Rattle.lot_play.specs.Walk.{after_frame, after_piece}
use Rattle.lot_play.specs.Picture.{picture_text}
use Rattle.lot_svg.proofs.Items.{writes_svg}
use Rattle.lot_svg.specs.Written.{Written, write, begin, finish, unwritten}
use Rattle.lot_types.specs.declared.doc.Doc.{Doc}
use Rattle.lot_types.specs.declared.layer.Layer.{Layer}
use Rattle.lot_types.specs.declared.matte.Matte.TheVariants.{No}
use Rattle.lot_types.specs.declared.piece.Piece.{Piece}
use Rattle.lot_types.specs.Frame.{Frame, nothing, Visit, visits}

-- A piece, and the pieces of the layers after it.
with_rest : (p : Piece) (rest : Option (Frame Piece)) (s : Written)
    → option_map (λ f. write (λ q. q) f s) (node_with No None (Some p) (Some nothing) (Some nothing) rest)
    ≡ option_map (λ f. write (λ q. q) f (after_piece p s)) rest
with_rest p None s = refl
with_rest p (Some f) s = refl

one_written : (d : Doc) (c l : ℕ) (t : ℤ) (p : Piece) (rest : Frame Visit) (s : Written) → piece_of d c l t ≡ Some p
    → after_frame d (node_of c l t rest) s ≡ after_frame d rest (after_piece p s)
one_written d c l t p rest s is =
    ap (λ (o : Option Piece). option_map (λ f. write (λ q. q) f s) (node_with No None o (Some nothing) (Some nothing) (evaluated_frame (piece_at d) rest))) is
    ∙ with_rest p (evaluated_frame (piece_at d) rest) s

picked : (b : Bool) (x y : Frame Visit) → b ≡ true → (if b then x else y) ≡ x
picked true x y e = refl
picked false x y e = absurd cc

passed : (b : Bool) (x y : Frame Visit) → b ≡ false → (if b then x else y) ≡ y
passed true x y e = absurd cc
passed false x y e = refl

-- A layer that is visible is written before the layers ls.
pub drawn : (d : Doc) (c l : ℕ) (t : ℤ) (layer : Layer) (p : Piece) (s now : Written) → layer_at d c l ≡ Some layer
    → is_visible t layer ≡ true → piece_of d c l t ≡ Some p → now ≡ after_piece p s
    → (ls : List ℕ) → after_frame d (nodes d c t ls) now ≡ after_frame d (nodes d c t (l ∷ ls)) s
drawn d c l t layer p s now there is piece e ls =
    let rest = nodes d c t ls in
    ap (λ (z : Written). after_frame d rest z) e
    ∙ sym (one_written d c l t p rest s piece)
    ∙ ap (λ (f : Frame Visit). after_frame d f s) (sym (ap (λ (o : Option Layer). with_layer c l t o rest) there ∙ picked (is_visible t layer) (node_of c l t rest) rest is))

-- One that is not visible is not written.
pub not_drawn : (d : Doc) (c l : ℕ) (t : ℤ) (layer : Layer) (s : Written) → layer_at d c l ≡ Some layer → is_visible t layer ≡ false
    → (ls : List ℕ) → after_frame d (nodes d c t ls) s ≡ after_frame d (nodes d c t (l ∷ ls)) s
not_drawn d c l t layer s there is ls =
    let rest = nodes d c t ls in
    ap (λ (f : Frame Visit). after_frame d f s) (sym (ap (λ (o : Option Layer). with_layer c l t o rest) there ∙ passed (is_visible t layer) (node_of c l t rest) rest is))

-- A layer that is visible is one visit, and one that is not visible is none.
pub one_visit : (d : Doc) (c l : ℕ) (t : ℤ) (layer : Layer) (before now : ℕ) → layer_at d c l ≡ Some layer
    → is_visible t layer ≡ true → now ≡ before + 1
    → (ls : List ℕ) → now + length (visits (nodes d c t ls)) ≤ before + length (visits (nodes d c t (l ∷ ls)))
one_visit d c l t layer before now there is e ls =
    let rest = nodes d c t ls in
    let same : nodes d c t (l ∷ ls) ≡ node_of c l t rest =
    ap (λ (o : Option Layer). with_layer c l t o rest) there ∙ picked (is_visible t layer) (node_of c l t rest) rest is in
    let count = ap (λ (f : Frame Visit). length (visits f)) same in
    omega (arith, e, count)

pub no_visit : (d : Doc) (c l : ℕ) (t : ℤ) (layer : Layer) (before : ℕ) → layer_at d c l ≡ Some layer
    → is_visible t layer ≡ false
    → (ls : List ℕ) → before + length (visits (nodes d c t ls)) ≤ before + length (visits (nodes d c t (l ∷ ls)))
no_visit d c l t layer before there is ls =
    let rest = nodes d c t ls in
    let same : nodes d c t (l ∷ ls) ≡ rest =
    ap (λ (o : Option Layer). with_layer c l t o rest) there ∙ passed (is_visible t layer) (node_of c l t rest) rest is in
    let count = ap (λ (f : Frame Visit). length (visits f)) same in
    omega (arith, count)

-- The text of the frame, from what is written after its layers.
pub gives_text : (d : Doc) (o : Option (Frame Piece)) (s : Written)
    → option_map (λ f. write (λ p. p) f (begin d.w d.h unwritten)) o ≡ Some s → option_map (picture_text d) o ≡ Some (finish s)
gives_text d None s is = absurd cc
gives_text d (Some f) s is =
    let same : write (λ p. p) f (begin d.w d.h unwritten) ≡ s = (let m = is in cc) in
    ap (λ (b : List ℕ). Some b) (sym (writes_svg d.w d.h (λ p. p) f) ∙ ap finish same)
