-- The frame of a composition at a time: the layers that it shows, as a tree. After the Lottie Specification 1.0,
-- "Layers". Mattes and inner compositions come with their layers.
use Rattle.std.specs.Prelude.{ℕ, ℤ, ◌-◌, Bool, true, false, not, ◌&&◌, int_le, int_lt, List, [], ◌∷◌, length, reverse, Option, Some, None, if◌then◌else◌}
use Rattle.lot_comp.specs.Full.{layer_at}
use Rattle.lot_comp.specs.Piece.{piece_of}
use Rattle.lot_refs.specs.Drawn.{drawn_layers}
use Rattle.lot_refs.specs.Linked.{layers_of}
use Rattle.lot_types.specs.declared.doc.Doc.{Doc}
use Rattle.lot_types.specs.declared.layer.Layer.{Layer}
use Rattle.lot_types.specs.declared.layer.LayerKind.{LayerKind}
use Rattle.lot_types.specs.declared.layer.LayerKind.TheVariants as kind
use Rattle.lot_types.specs.declared.matte.Matte.{Matte}
use Rattle.lot_types.specs.declared.matte.Matte.TheVariants.{No}
use Rattle.lot_types.specs.declared.piece.Piece.{Piece}
use Rattle.lot_types.specs.Frame.{Frame, nothing, node, Visit, ClipSize}

-- A null layer shows nothing.
abbrev pub shows : LayerKind → Bool
shows (kind.Precomp name w h st sr tm) = true
shows (kind.Solid w h rgb) = true
shows kind.Null = false
shows (kind.Shape items) = true

-- A layer that shows something and is not hidden is visible from its first moment to before its last.
abbrev pub is_visible : ℤ → Layer → Bool
is_visible t layer = shows layer.kind && not layer.hidden && int_le layer.ip t && int_lt t layer.op

abbrev pub visit_of : ℕ → ℕ → ℤ → Visit
visit_of c l t = record { comp = c; layer = l; time = t }

-- Layer l, without a matte and without a composition in it, and the layers after it.
abbrev pub node_of : ℕ → ℕ → ℤ → Frame Visit → Frame Visit
node_of c l t rest = node (visit_of c l t) No nothing None nothing rest

abbrev pub with_layer : ℕ → ℕ → ℤ → Option Layer → Frame Visit → Frame Visit
with_layer c l t None rest = rest
with_layer c l t (Some layer) rest = if is_visible t layer then node_of c l t rest else rest

-- Those of the layers with these numbers that are visible, in this order.
abbrev pub nodes : Doc → ℕ → ℤ → List ℕ → Frame Visit
nodes d c t [] = nothing
nodes d c t (l ∷ ls) = with_layer c l t (layer_at d c l) (nodes d c t ls)

-- The layers of composition c that are drawn by themselves, from the last to the first, so that the first lies on top.
abbrev pub frame : Doc → ℕ → ℤ → Frame Visit
frame d c t = nodes d c t (reverse (drawn_layers (layers_of d c)))

-- The main composition is the last.
abbrev pub main_comp : Doc → ℕ
main_comp d = length d.comps - 1

-- ---- with the layers evaluated

-- The parts of a node, where there are all.
abbrev pub node_with : {A : Type 0} → Matte → Option ClipSize → Option A → Option (Frame A) → Option (Frame A)
    → Option (Frame A) → Option (Frame A)
node_with kind clip (Some x) (Some matte) (Some inner) (Some rest) = Some (node x kind matte clip inner rest)
node_with kind clip (Some x) (Some matte) (Some inner) None = None
node_with kind clip (Some x) (Some matte) None rest = None
node_with kind clip (Some x) None inner rest = None
node_with kind clip None matte inner rest = None

-- The frame with what each layer is evaluated to, where all can be.
abbrev pub evaluated_frame : {A B : Type 0} → (A → Option B) → Frame A → Option (Frame B)
evaluated_frame f nothing = Some nothing
evaluated_frame f (node at kind matte clip inner rest) =
    node_with kind clip (f at) (evaluated_frame f matte) (evaluated_frame f inner) (evaluated_frame f rest)

abbrev pub piece_at : Doc → Visit → Option Piece
piece_at d v = piece_of d v.comp v.layer v.time

-- The finished frame of the main composition.
abbrev pub finished_frame : Doc → ℤ → Option (Frame Piece)
finished_frame d t = evaluated_frame (piece_at d) (frame d (main_comp d) t)
