-- Each document whose references hold has a frame at every time.
use Rattle.std.proofs.Common.{◌≡◌, ℕ, ℤ, ◌<◌, Bool, true, false, zero, suc, List, [], ◌∷◌, length, reverse, slice_get, Option, Some, None, refl, sym, subst, arith, if◌then◌else◌}
use Rattle.std.specs.Prelude.{IsSome, IfSome, option_and_then}
use Rattle.std.specs.List.{All}
use Rattle.std.proofs.lemmas.List.Elements.{All-head, All-tail, All-weaker}
use Rattle.lot_types.specs.declared.collected.Collected.{Collected}
use Rattle.lot_types.specs.declared.comp.Comp.{Comp}
use Rattle.lot_types.specs.declared.doc.Doc.{Doc}
use Rattle.lot_types.specs.declared.item.Item.{Item}
use Rattle.lot_types.specs.declared.layer.Layer.{Layer}
use Rattle.lot_types.specs.declared.layer.LayerKind.{LayerKind}
use Rattle.lot_types.specs.declared.layer.LayerKind.TheVariants as kind
use Rattle.lot_types.specs.declared.mask.Mask.{Mask}
use Rattle.lot_types.specs.declared.matrix.Matrix.{Matrix}
use Rattle.lot_types.specs.declared.matte.Matte.{Matte}
use Rattle.lot_types.specs.declared.matte.Matte.TheVariants.{No}
use Rattle.lot_types.specs.declared.outline.Outline.{Outline}
use Rattle.lot_types.specs.declared.paint.Paint.{Paint}
use Rattle.lot_types.specs.declared.painted.Painted.{Painted}
use Rattle.lot_types.specs.declared.piece.Piece.{Piece}
use Rattle.lot_types.specs.Frame.{Frame, nothing, Visit}
use Rattle.lot_types.specs.Items.{AreItemsOf}
use Rattle.lot_types.specs.WellFormed.{HasKindValues, HasLayerValues, LayersHaveValues, IsBuilt, IsBuiltKind, LayersAreBuilt}
use Rattle.lot_types.proofs.Elements.{All-reverse, All-slice_get}
use Rattle.lot_types.proofs.Present.{each_present}
use Rattle.lot_refs.specs.Drawn.{drawn_layers}
use Rattle.lot_refs.specs.Linked.{IsValid, layers_in, layers_of}
use Rattle.lot_refs.specs.Parents.{ancestors_of}
use Rattle.lot_refs.proofs.Named.{ancestors_within}
use Rattle.lot_prop.specs.Transform.{own_matrix, opacity_value}
use Rattle.lot_prop.proofs.Present.{matrix_present, opacity_present}
use Rattle.lot_group.specs.Collected.{collected, LeadsToStyle}
use Rattle.lot_group.proofs.Present.{both_present, collected_present, collected_leads}
use Rattle.lot_paint.specs.Paint.{paint_at}
use Rattle.lot_paint.proofs.Present.{paint_present}
use Rattle.lot_comp.specs.Frame.{is_visible, node_of, with_layer, nodes, main_comp, node_with, evaluated_frame, piece_at, finished_frame}
use Rattle.lot_comp.specs.Full.{layer_at, own_at, chain_product, full_matrix}
use Rattle.lot_comp.specs.Piece.{paints_of, piece_with, without_masks, without_matte, piece_of_layer, piece_of}
use Rattle.lot_comp.specs.Shape.{style_paint, styles_paints, shape_paints}

-- What is known of a layer that is there.
in_layers : (P : Layer → Type 0) (comp : Option Comp) (l : ℕ) → IfSome comp (λ comp. All P comp.layers)
    → IfSome (slice_get (layers_in comp) l) P
in_layers P None l all = tt
in_layers P (Some comp) l all = All-slice_get P comp.layers l all

layer_has : (d : Doc) (c l : ℕ) → IsValid d → IfSome (layer_at d c l) (HasLayerValues d)
layer_has d c l valid = in_layers (HasLayerValues d) (slice_get d.comps c) l (All-slice_get (LayersHaveValues d) d.comps c valid.slots)

layer_is_built : (d : Doc) (c l : ℕ) → IsValid d → IfSome (layer_at d c l) IsBuilt
layer_is_built d c l valid = in_layers IsBuilt (slice_get d.comps c) l (All-slice_get LayersAreBuilt d.comps c valid.built)

item_present : {X : Type 0} (xs : List X) (i : ℕ) → i < length xs → IsSome (slice_get xs i)
item_present [] i within = absurd (omega (arith, within))
item_present (x ∷ xs) zero within = refl
item_present (x ∷ xs) (suc i) within = item_present xs i (omega (arith, within))

-- Matrices.
own_present : (d : Doc) (c : ℕ) (t : ℤ) (l : ℕ) → IsValid d → IsSome (layer_at d c l) → IsSome (own_at d c t l)
unfolding own_at
own_present d c t l valid there = of (layer_at d c l) there (layer_has d c l valid)
  where
    of : (layer : Option Layer) → IsSome layer → IfSome layer (HasLayerValues d) → IsSome (option_and_then (λ layer. own_matrix d layer.ks t) layer)
    of (Some layer) there has = matrix_present d layer.ks t has.transform
    of None there has = absurd (cc)

chain_present : (d : Doc) (c : ℕ) (t : ℤ) (l : ℕ) (ks : List ℕ) → IsValid d → IsSome (layer_at d c l)
    → All (λ k. IsSome (layer_at d c k)) ks → IsSome (chain_product d c t l ks)
chain_present d c t l [] valid there all = own_present d c t l valid there
chain_present d c t l (k ∷ ks) valid there all =
    both_present (own_at d c t l) (chain_product d c t k ks) (own_present d c t l valid there)
    (chain_present d c t k ks valid (All-head (λ k. IsSome (layer_at d c k)) k ks all) (All-tail (λ k. IsSome (layer_at d c k)) k ks all))

full_present : (d : Doc) (c l : ℕ) (t : ℤ) → IsValid d → IsSome (layer_at d c l) → IsSome (full_matrix d c l t)
full_present d c l t valid there =
    chain_present d c t l (ancestors_of (layers_of d c) l) valid there
    (All-weaker (λ k. k < length (layers_of d c)) (λ k. IsSome (layer_at d c k)) (item_present (layers_of d c))
    (ancestors_of (layers_of d c) l) (ancestors_within (layers_of d c) l))

-- What a layer shows.
style_present : (d : Doc) (t : ℤ) (items : List Item) (leaves : List Outline) (p : Painted) → LeadsToStyle d items p.place
    → IsSome (style_paint d t items leaves p)
style_present d t items leaves p leads =
    subst (λ (found : Option Item). IsSome (option_and_then (λ style. paint_at d t style p leaves) found)) (sym leads.at)
    (paint_present d t leads.style p leaves leads.kind leads.values)

styles_present : (d : Doc) (t : ℤ) (items : List Item) (found : Collected) → All (λ (p : Painted). LeadsToStyle d items p.place) found.styles
    → IsSome (styles_paints d t items found)
styles_present d t items found lead =
    each_present (style_paint d t items found.leaves) (reverse found.styles)
    (All-reverse (λ p. IsSome (style_paint d t items found.leaves p)) found.styles
    (All-weaker (λ p. LeadsToStyle d items p.place) (λ p. IsSome (style_paint d t items found.leaves p))
    (style_present d t items found.leaves) found.styles lead))

shape_present : (d : Doc) (t : ℤ) (items : List Item) → AreItemsOf d items → IsSome (shape_paints d t items)
unfolding shape_paints
shape_present d t items are = of (collected d t items) refl (collected_present d t items are)
  where
    of : (found : Option Collected) → collected d t items ≡ found → IsSome found → IsSome (option_and_then (styles_paints d t items) found)
    of (Some found) is there = styles_present d t items found (collected_leads d t items found are is)
    of None is there = absurd (cc)

paints_present : (d : Doc) (t : ℤ) (shown : LayerKind) → IsBuiltKind shown → HasKindValues d shown → IsSome (paints_of d t shown)
paints_present d t (kind.Solid w h rgb) built has = refl
paints_present d t kind.Null built has = refl
paints_present d t (kind.Precomp name w h st sr tm) built has = absurd built
paints_present d t (kind.Shape items) built has = shape_present d t items has

parts_present : (m : Option Matrix) (opacity : Option ℤ) (paints : Option (List Paint)) → IsSome m → IsSome opacity → IsSome paints
    → IsSome (piece_with m opacity paints)
parts_present (Some m) (Some opacity) (Some paints) h k l = refl
parts_present (Some m) (Some opacity) None h k l = absurd (cc)
parts_present (Some m) None paints h k l = absurd (cc)
parts_present None opacity paints h k l = absurd (cc)

without_either : (matte : Matte) (masks : List Mask) (found : Option Piece) → matte ≡ No → masks ≡ [] → IsSome found
    → IsSome (without_matte matte (without_masks masks found))
without_either matte masks found unmatted unmasked there =
    subst (λ (matte : Matte). IsSome (without_matte matte (without_masks masks found))) (sym unmatted)
    (subst (λ (masks : List Mask). IsSome (without_masks masks found)) (sym unmasked) there)

of_layer_present : (d : Doc) (c l : ℕ) (t : ℤ) (layer : Layer) → IsValid d → IsSome (layer_at d c l) → HasLayerValues d layer → IsBuilt layer
    → IsSome (piece_of_layer d c l t layer)
of_layer_present d c l t layer valid there has built =
    without_either layer.matte layer.masks (piece_with (full_matrix d c l t) (opacity_value d layer.ks.o t) (paints_of d t layer.kind))
    built.matte built.masks
    (parts_present (full_matrix d c l t) (opacity_value d layer.ks.o t) (paints_of d t layer.kind) (full_present d c l t valid there)
    (opacity_present d layer.ks.o t has.transform.opacity) (paints_present d t layer.kind built.kind has.kind))

piece_present : (d : Doc) (c l : ℕ) (t : ℤ) → IsValid d → IsSome (layer_at d c l) → IsSome (piece_of d c l t)
unfolding piece_of
piece_present d c l t valid there = of (layer_at d c l) there (layer_has d c l valid) (layer_is_built d c l valid)
  where
    of : (layer : Option Layer) → IsSome layer → IfSome layer (HasLayerValues d) → IfSome layer IsBuilt
        → IsSome (option_and_then (piece_of_layer d c l t) layer)
    of (Some layer) is has built = of_layer_present d c l t layer valid there has built
    of None is has built = absurd (cc)

-- Frames.
node_present : (d : Doc) (c l : ℕ) (t : ℤ) (rest : Frame Visit) → IsValid d → IsSome (layer_at d c l)
    → IsSome (evaluated_frame (piece_at d) rest) → IsSome (evaluated_frame (piece_at d) (node_of c l t rest))
node_present d c l t rest valid there others =
    of (piece_of d c l t) (evaluated_frame (piece_at d) rest) (piece_present d c l t valid there) others
  where
    of : (piece : Option Piece) (rest : Option (Frame Piece)) → IsSome piece → IsSome rest
        → IsSome (node_with No None piece (Some nothing) (Some nothing) rest)
    of (Some piece) (Some rest) h k = refl
    of (Some piece) None h k = absurd (cc)
    of None rest h k = absurd (cc)

with_layer_present : (d : Doc) (c l : ℕ) (t : ℤ) (layer : Option Layer) (rest : Frame Visit) → IsValid d → layer_at d c l ≡ layer
    → IsSome (evaluated_frame (piece_at d) rest) → IsSome (evaluated_frame (piece_at d) (with_layer c l t layer rest))
with_layer_present d c l t None rest valid is others = others
with_layer_present d c l t (Some layer) rest valid is others = either (is_visible t layer)
  where
    either : (b : Bool) → IsSome (evaluated_frame (piece_at d) (if b then node_of c l t rest else rest))
    either true = node_present d c l t rest valid (subst IsSome (sym is) refl) others
    either false = others

nodes_present : (d : Doc) (c : ℕ) (t : ℤ) (ls : List ℕ) → IsValid d → IsSome (evaluated_frame (piece_at d) (nodes d c t ls))
nodes_present d c t [] valid = refl
nodes_present d c t (l ∷ ls) valid =
    with_layer_present d c l t (layer_at d c l) (nodes d c t ls) valid refl (nodes_present d c t ls valid)

pub frame_present : (d : Doc) (t : ℤ) → IsValid d → IsSome (finished_frame d t)
frame_present d t valid = nodes_present d (main_comp d) t (reverse (drawn_layers (layers_of d (main_comp d)))) valid
