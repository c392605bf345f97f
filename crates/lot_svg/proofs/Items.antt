-- Writing a frame adds its items.
use Rattle.std.proofs.Common.{◌≡◌, ℕ, ℤ, ◌+◌, List, [], ◌∷◌, ◌++◌, fold, map, refl, sym, ◌∙◌, ap, add_assoc, add-zero, append_assoc}
use Rattle.std.proofs.lemmas.List.Sums.{fold-append}
use Rattle.std.proofs.lemmas.List.{append-nil}
use Rattle.lot_types.specs.declared.matte.Matte.{Matte}
use Rattle.lot_types.specs.declared.matte.Matte.TheVariants.{No, Alpha, AlphaInv, Luma, LumaInv}
use Rattle.lot_types.specs.declared.piece.Piece.{Piece}
use Rattle.lot_types.specs.declared.paint.Paint.{Paint}
use Rattle.lot_types.specs.Frame.{Frame, nothing, node}
use Rattle.lot_svg.specs.Items.{Item, plain, opens, ends, refers, bytes_of, opened, opened_by, parts, text_of_items}
use Rattle.lot_svg.specs.Paint.{paint_items}
use Rattle.lot_svg.specs.Matte.{has_matte, matte_opening, matte_closing, mask_of, mask_use}
use Rattle.lot_svg.specs.Layer.{items, group_opening, clip_opening, clip_closing, layer_closing}
use Rattle.lot_svg.specs.Svg.{head_text, tail_text, svg_text}
use Rattle.lot_svg.specs.Written.{Written, unwritten, append, put, add, begin, open_matte, close_matte, open_layer, open_clip, close_clip, paint, close_layer, write, finish}

next_after_one : (item : Item) (s : Written) → (put s item).next ≡ s.next + opened item
unfolding append
next_after_one (plain bytes) s = sym (add-zero s.next)
next_after_one (opens before n) s = refl
next_after_one (ends bytes n) s = sym (add-zero s.next)
next_after_one (refers before n) s = sym (add-zero s.next)

bytes_after_one : (item : Item) (s : Written) → (put s item).bytes ≡ s.bytes ++ bytes_of item
unfolding append
bytes_after_one (plain bytes) s = refl
bytes_after_one (opens before n) s = refl
bytes_after_one (ends bytes n) s = refl
bytes_after_one (refers before n) s = refl

next_after : (list : List Item) (s : Written) → (add list s).next ≡ s.next + opened_by list
next_after [] s = sym (add-zero s.next)
next_after (item ∷ after) s =
    next_after after (put s item) ∙ ap (λ (n : ℕ). n + opened_by after) (next_after_one item s)
    ∙ add_assoc s.next (opened item) (opened_by after)

pub bytes_after : (list : List Item) (s : Written) → (add list s).bytes ≡ s.bytes ++ text_of_items list
bytes_after [] s = sym (append-nil s.bytes)
bytes_after (item ∷ after) s =
    bytes_after after (put s item) ∙ ap (λ (bytes : List ℕ). bytes ++ text_of_items after) (bytes_after_one item s)
    ∙ append_assoc s.bytes (bytes_of item) (text_of_items after)

-- Each part in turn.
abbrev run : List (ℕ → List Item) → Written → Written
run [] s = s
run (part ∷ after) s = run after (add (part s.next) s)

runs : (list : List (ℕ → List Item)) (s : Written) → add (parts list s.next) s ≡ run list s
runs [] s = refl
runs (part ∷ after) s =
    fold-append put s (part s.next) (parts after (s.next + opened_by (part s.next)))
    ∙ ap (λ (n : ℕ). add (parts after n) (add (part s.next) s)) (sym (next_after (part s.next) s))
    ∙ runs after (add (part s.next) s)

paints_run : (paints : List Paint) (s : Written) → fold paint s paints ≡ run (map paint_items paints) s
paints_run [] s = refl
paints_run (p ∷ paints) s = paints_run paints (paint s p)

paints_add : (paints : List Paint) (s : Written) → fold paint s paints ≡ add (parts (map paint_items paints) s.next) s
paints_add paints s = paints_run paints s ∙ sym (runs (map paint_items paints) s)

closes_any : (kind : Matte) (n : ℕ) (s : Written) → close_matte kind s ≡ add (matte_closing kind n) s
closes_any No n s = refl
closes_any Alpha n s = refl
closes_any AlphaInv n s = refl
closes_any Luma n s = refl
closes_any LumaInv n s = refl

pub writes : {A : Type 0} (piece : A → Piece) (f : Frame A) (s : Written)
    → write piece f s ≡ add (items piece f s.next) s
writes piece nothing s = refl
writes piece (node at kind matte clip inner rest) s =
    let p = piece at in
    let mask = mask_of kind s.next in
    let closed = λ (x : Written). close_layer (has_matte kind) (close_clip clip x) in
    let painted = λ (x : Written). fold paint (open_layer mask p x) p.paints in
    ap (λ (x : Written). write piece rest (closed (write piece inner (open_clip clip (painted (close_matte kind x))))))
    (writes piece matte (open_matte kind s))
    ∙ ap (λ (x : Written). write piece rest (closed (write piece inner (open_clip clip (painted x)))))
    (closes_any kind s.next (add (items piece matte (open_matte kind s).next) (open_matte kind s)))
    ∙ ap (λ (x : Written). write piece rest (closed (write piece inner (open_clip clip x)))) (paints_add p.paints _)
    ∙ ap (λ (x : Written). write piece rest (closed x)) (writes piece inner _)
    ∙ writes piece rest _
    ∙ sym (runs (
    matte_opening kind ∷ items piece matte ∷ (λ _. matte_closing kind s.next) ∷
    (λ _. mask_use mask) ∷ group_opening p ∷
    parts (map paint_items p.paints) ∷
    clip_opening clip ∷ items piece inner ∷ (λ _. clip_closing clip) ∷
    (λ _. layer_closing (has_matte kind)) ∷ items piece rest ∷ []) s)

start_next : (w h : ℤ) → (begin w h unwritten).next ≡ 1
unfolding append
start_next w h = refl

start_bytes : (w h : ℤ) → (begin w h unwritten).bytes ≡ head_text w h
unfolding append
start_bytes w h = refl

-- A frame that is begun, written and finished is the text of the frame.
pub writes_svg : {A : Type 0} (w h : ℤ) (piece : A → Piece) (f : Frame A)
    → finish (write piece f (begin w h unwritten)) ≡ svg_text w h piece f
writes_svg w h piece f =
    let start = begin w h unwritten in
    ap (λ (s : Written). s.bytes ++ tail_text) (writes piece f start)
    ∙ ap (λ (bytes : List ℕ). bytes ++ tail_text) (bytes_after (items piece f start.next) start)
    ∙ ap (λ (bytes : List ℕ). (bytes ++ text_of_items (items piece f start.next)) ++ tail_text) (start_bytes w h)
    ∙ ap (λ (n : ℕ). (head_text w h ++ text_of_items (items piece f n)) ++ tail_text) (start_next w h)
