-- The items of a frame keep the order of identifiers.
use Rattle.std.proofs.Common.{◌≡◌, ℕ, ◌+◌, ◌<◌, ◌≤◌, ◌⊎◌, Bool, true, false, map, List, [], ◌∷◌, ◌++◌, Option, Some, None, refl, sym, subst, inl, arith, add_assoc, add-zero}
use Rattle.lot_types.specs.declared.matte.Matte.{Matte}
use Rattle.lot_types.specs.declared.matte.Matte.TheVariants.{No, Alpha, AlphaInv, Luma, LumaInv}
use Rattle.lot_types.specs.declared.ink.Ink.{Ink}
use Rattle.lot_types.specs.declared.ink.Ink.TheVariants.{Flat, Linear, Radial}
use Rattle.lot_types.specs.declared.contour.Contour.{Contour}
use Rattle.lot_types.specs.declared.piece.Piece.{Piece}
use Rattle.lot_types.specs.declared.paint.Paint.{Paint}
use Rattle.lot_types.specs.Frame.{Frame, nothing, node, ClipSize}
use Rattle.lot_svg.specs.Items.{Item, plain, opens, ends, refers, opened_by, parts}
use Rattle.lot_svg.specs.Paint.{ink_definition, ink_value, path_items, where_drawn, paint_items, before_ink, after_ink}
use Rattle.lot_svg.specs.Element.{tag_end}
use Rattle.lot_svg.specs.Mask.{mask_definition, mask_attribute}
use Rattle.lot_svg.specs.Matte.{has_matte, matte_opening, matte_closing, mask_of, mask_use}
use Rattle.lot_svg.specs.Layer.{items, group_opening, group_start, clip_opening, clip_closing, layer_closing}

abbrev pub IsOneOf : ℕ → List ℕ → Type 0
IsOneOf m [] = ⊥
IsOneOf m (n ∷ more) = (m ≡ n) ⊎ IsOneOf m more

-- Definitions open as n, n + 1 and so on, each ends after it opened, and each reference comes after the end of its
-- definition, where those from `low` to below n opened before, and those of `done` ended before.
abbrev pub Follows : ℕ → ℕ → List ℕ → List Item → Type 0
Follows low n done [] = Unit {0}
Follows low n done (plain bytes ∷ after) = Follows low n done after
Follows low n done (opens before m ∷ after) = (m ≡ n) × Follows low (n + 1) done after
Follows low n done (ends bytes m ∷ after) = (low ≤ m) × (m < n) × Follows low n (m ∷ done) after
Follows low n done (refers before m ∷ after) = IsOneOf m done × Follows low n done after

-- The definitions that ended, the last one first.
abbrev ended : List Item → List ℕ → List ℕ
ended [] done = done
ended (plain bytes ∷ after) done = ended after done
ended (opens before m ∷ after) done = ended after done
ended (ends bytes m ∷ after) done = ended after (m ∷ done)
ended (refers before m ∷ after) done = ended after done

one_more : (low n : ℕ) (list more : List Item) (done : List ℕ)
    → Follows low (n + (1 + opened_by list)) done more → Follows low (n + 1 + opened_by list) done more
one_more low n list more done h = subst (λ (k : ℕ). Follows low k done more) (sym (add_assoc n 1 (opened_by list))) h

same : (low n : ℕ) (list more : List Item) (done : List ℕ)
    → Follows low (n + (0 + opened_by list)) done more → Follows low (n + opened_by list) done more
same low n list more done h =
    let e : n + (0 + opened_by list) ≡ n + opened_by list = omega arith in
    subst (λ (k : ℕ). Follows low k done more) e h

joins : (low n : ℕ) (done : List ℕ) (list more : List Item)
    → Follows low n done list → Follows low (n + opened_by list) (ended list done) more
    → Follows low n done (list ++ more)
joins low n done [] more h g = subst (λ (k : ℕ). Follows low k done more) (add-zero n) g
joins low n done (plain b ∷ after) more h g =
    joins low n done after more h (same low n after more (ended after done) g)
joins low n done (opens b m ∷ after) more h g =
    (h.0, joins low (n + 1) done after more h.1 (one_more low n after more (ended after done) g))
joins low n done (ends b m ∷ after) more h g =
    (h.0, h.1, joins low n (m ∷ done) after more h.2 (same low n after more (ended after (m ∷ done)) g))
joins low n done (refers b m ∷ after) more h g =
    (h.0, joins low n done after more h.1 (same low n after more (ended after done) g))

-- Parts keep the order. As a record it shows its parts, so that they need not be written at each step.
record Keeps (list : List (ℕ → List Item)) (low n : ℕ) (done : List ℕ) : Type 0 where
  pub fact : low ≤ n → Follows low n done (parts list n)

first : (part : ℕ → List Item) (after : List (ℕ → List Item)) (low n : ℕ) (done : List ℕ)
    → (low ≤ n → Follows low n done (part n)) → Keeps after low (n + opened_by (part n)) (ended (part n) done)
    → Keeps (part ∷ after) low n done
first part after low n done h g = record {
  fact = λ le. joins low n done (part n) (parts after (n + opened_by (part n))) (h le) (g.fact (omega (arith, le)));
}

none : (low n : ℕ) (done : List ℕ) → Keeps [] low n done
none low n done = record { fact = λ le. tt }

matte_opens : (kind : Matte) (low n : ℕ) (done : List ℕ) → low ≤ n → Follows low n done (matte_opening kind n)
matte_opens No low n done le = tt
matte_opens Alpha low n done le = (refl, (le, omega arith, (refl, (inl refl, tt))))
matte_opens AlphaInv low n done le = (refl, (le, omega arith, (refl, (inl refl, tt))))
matte_opens Luma low n done le = (refl, tt)
matte_opens LumaInv low n done le = (refl, (le, omega arith, (refl, (inl refl, tt))))

matte_closes : (kind : Matte) (low n k : ℕ) (done : List ℕ)
    → low ≤ n → Follows low (n + opened_by (matte_opening kind n) + k) done (matte_closing kind n)
matte_closes No low n k done le = tt
matte_closes Alpha low n k done le = (omega (arith, le), omega arith, tt)
matte_closes AlphaInv low n k done le = (omega (arith, le), omega arith, tt)
matte_closes Luma low n k done le = (le, omega arith, tt)
matte_closes LumaInv low n k done le = (omega (arith, le), omega arith, tt)

mask_used : (kind : Matte) (low n m : ℕ) (done : List ℕ)
    → Follows low m (ended (matte_closing kind n) done) (mask_use (mask_of kind n))
mask_used No low n m done = tt
mask_used Alpha low n m done = (inl refl, tt)
mask_used AlphaInv low n m done = (inl refl, tt)
mask_used Luma low n m done = (inl refl, tt)
mask_used LumaInv low n m done = (inl refl, tt)

group_keeps : (masked : Bool) (p : Piece) (before after : List ℕ) (low n : ℕ) (done : List ℕ) → low ≤ n
    → Follows low n done
    (mask_definition masked p n ++ plain before ∷ (mask_attribute masked n ++ plain after ∷ []))
group_keeps true p before after low n done le = (refl, (le, omega arith, (inl refl, tt)))
group_keeps false p before after low n done le = tt

ink_keeps : (ink : Ink) (before after : List ℕ) (low n : ℕ) (done : List ℕ) → low ≤ n
    → Follows low n done (ink_definition ink n ++ plain before ∷ (ink_value ink n ++ plain after ∷ []))
ink_keeps (Flat rgb) before after low n done le = tt
ink_keeps (Linear from to stops) before after low n done le = (refl, (le, omega arith, (inl refl, tt)))
ink_keeps (Radial center radius focus stops) before after low n done le = (refl, (le, omega arith, (inl refl, tt)))

drawn_keeps : (contours : List Contour) (list : List Item) (low n : ℕ) (done : List ℕ)
    → Follows low n done list → Follows low n done (where_drawn contours list)
drawn_keeps [] list low n done h = tt
drawn_keeps (c ∷ contours) list low n done h = h

paint_keeps : (p : Paint) (low n : ℕ) (done : List ℕ) → low ≤ n → Follows low n done (paint_items p n)
paint_keeps p low n done le =
    drawn_keeps p.contours (ink_definition p.ink n ++ path_items p n) low n done
    (ink_keeps p.ink (before_ink p.brush) (after_ink p) low n done le)

paints_keep : (paints : List Paint) (low n : ℕ) (done : List ℕ) → Keeps (map paint_items paints) low n done
paints_keep [] low n done = none low n done
paints_keep (p ∷ paints) low n done = first _ _ _ _ _ (paint_keeps p low n done) (paints_keep paints low _ _)

clip_opens : (clip : Option ClipSize) (low n : ℕ) (done : List ℕ) → low ≤ n → Follows low n done (clip_opening clip n)
clip_opens None low n done le = tt
clip_opens (Some size) low n done le = (refl, (le, omega arith, (inl refl, tt)))

clip_closes : (clip : Option ClipSize) (low n : ℕ) (done : List ℕ) → Follows low n done (clip_closing clip)
clip_closes None low n done = tt
clip_closes (Some size) low n done = tt

layer_closes : (matte : Bool) (low n : ℕ) (done : List ℕ) → Follows low n done (layer_closing matte)
layer_closes false low n done = tt
layer_closes true low n done = tt

pub follows : {A : Type 0} (piece : A → Piece) (f : Frame A) (low n : ℕ) (done : List ℕ)
    → low ≤ n → Follows low n done (items piece f n)
follows piece nothing low n done le = tt
follows piece (node at kind matte clip inner rest) low n done le =
    let whole : Keeps (
    matte_opening kind ∷ items piece matte ∷ (λ _. matte_closing kind n) ∷
    (λ _. mask_use (mask_of kind n)) ∷ group_opening (piece at) ∷
    parts (map paint_items (piece at).paints) ∷
    clip_opening clip ∷ items piece inner ∷ (λ _. clip_closing clip) ∷
    (λ _. layer_closing (has_matte kind)) ∷ items piece rest ∷ []) low n done =
    first _ _ _ _ _ (matte_opens kind low n done)
    (first _ _ _ _ _ (follows piece matte low _ _)
    (first _ _ _ _ _
    (λ _. matte_closes kind low n (opened_by (items piece matte (n + opened_by (matte_opening kind n)))) _ le)
    (first _ _ _ _ _ (λ _. mask_used kind low n _ _)
    (first _ _ _ _ _ (group_keeps (piece at).masked (piece at) (group_start (piece at)) tag_end low _ _)
    (first _ _ _ _ _ (paints_keep (piece at).paints low _ _).fact
    (first _ _ _ _ _ (clip_opens clip low _ _)
    (first _ _ _ _ _ (follows piece inner low _ _)
    (first _ _ _ _ _ (λ _. clip_closes clip low _ _)
    (first _ _ _ _ _ (λ _. layer_closes (has_matte kind) low _ _)
    (first _ _ _ _ _ (follows piece rest low _ _) (none low _ _)))))))))))
    in whole.fact le
