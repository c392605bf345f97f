use Rattle.std.proofs.Common.{inl, inr, refl}
use Rattle.lot_types.proofs.Variants.{kind-Group, kind-Fill, kind-Stroke, kind-GradientFill, kind-GradientStroke, kind-Trim, kind-Place}
use Rattle.lot_outline.proofs.Leaves.{values-Rect, values-Ellipse, values-Star, values-Path, no_leaf}
use Rattle.lot_outline.proofs.leaf.contours.Goals as goal

pub rectangle_contours-requires-clause-center : goal.rectangle_contours-requires-clause-center
rectangle_contours-requires-clause-center g c = (values-Rect c.args.d.now _ _ _ _ _ _ c.in-Rect.is c.requires.values).0

pub rectangle_contours-requires-clause-size : goal.rectangle_contours-requires-clause-size
rectangle_contours-requires-clause-size g c = (values-Rect c.args.d.now _ _ _ _ _ _ c.in-Rect.is c.requires.values).1

pub rectangle_contours-requires-clause-radius : goal.rectangle_contours-requires-clause-radius
rectangle_contours-requires-clause-radius g c = (values-Rect c.args.d.now _ _ _ _ _ _ c.in-Rect.is c.requires.values).2

pub ellipse_contours-requires-clause-center : goal.ellipse_contours-requires-clause-center
ellipse_contours-requires-clause-center g c =
    (values-Ellipse c.args.d.now _ _ _ _ _ c.in-Ellipse.is c.requires.values).0

pub ellipse_contours-requires-clause-size : goal.ellipse_contours-requires-clause-size
ellipse_contours-requires-clause-size g c = (values-Ellipse c.args.d.now _ _ _ _ _ c.in-Ellipse.is c.requires.values).1

pub bezier_contours-requires : goal.bezier_contours-requires
bezier_contours-requires g c = values-Path c.args.d.now _ _ _ _ c.in-Path.is c.requires.values

pub polystar_contours-requires-clause-points : goal.polystar_contours-requires-clause-points
polystar_contours-requires-clause-points g c =
    (values-Star c.args.d.now _ _ _ _ _ _ _ _ _ _ _ c.in-Star.is c.requires.values).0

pub polystar_contours-requires-clause-center : goal.polystar_contours-requires-clause-center
polystar_contours-requires-clause-center g c =
    (values-Star c.args.d.now _ _ _ _ _ _ _ _ _ _ _ c.in-Star.is c.requires.values).1

pub polystar_contours-requires-clause-rotation : goal.polystar_contours-requires-clause-rotation
polystar_contours-requires-clause-rotation g c =
    (values-Star c.args.d.now _ _ _ _ _ _ _ _ _ _ _ c.in-Star.is c.requires.values).2

pub polystar_contours-requires-clause-outer_radius : goal.polystar_contours-requires-clause-outer_radius
polystar_contours-requires-clause-outer_radius g c =
    (values-Star c.args.d.now _ _ _ _ _ _ _ _ _ _ _ c.in-Star.is c.requires.values).3

pub polystar_contours-requires-clause-outer_roundness : goal.polystar_contours-requires-clause-outer_roundness
polystar_contours-requires-clause-outer_roundness g c =
    (values-Star c.args.d.now _ _ _ _ _ _ _ _ _ _ _ c.in-Star.is c.requires.values).4

pub polystar_contours-requires-clause-inner_radius : goal.polystar_contours-requires-clause-inner_radius
polystar_contours-requires-clause-inner_radius g c =
    (values-Star c.args.d.now _ _ _ _ _ _ _ _ _ _ _ c.in-Star.is c.requires.values).5

pub polystar_contours-requires-clause-inner_roundness : goal.polystar_contours-requires-clause-inner_roundness
polystar_contours-requires-clause-inner_roundness g c =
    (values-Star c.args.d.now _ _ _ _ _ _ _ _ _ _ _ c.in-Star.is c.requires.values).6

pub unreachable-requires : goal.unreachable-requires
unreachable-requires g c = elim c.in-Group.is [
  | inl h ↦ no_leaf _ _ _ h.2 (kind-Group _ _) refl c.requires.leaf
  | inr (inl h) ↦ no_leaf _ _ _ h.4 (kind-Fill _ _ _ _) refl c.requires.leaf
  | inr (inr (inl h)) ↦ no_leaf _ _ _ h.8 (kind-Stroke _ _ _ _ _ _ _ _) refl c.requires.leaf
  | inr (inr (inr (inl h))) ↦ no_leaf _ _ _ h.9 (kind-GradientFill _ _ _ _ _ _ _ _ _) refl c.requires.leaf
  | inr (inr (inr (inr (inl h)))) ↦
      no_leaf _ _ _ h.13 (kind-GradientStroke _ _ _ _ _ _ _ _ _ _ _ _ _) refl c.requires.leaf
  | inr (inr (inr (inr (inr (inl h))))) ↦ no_leaf _ _ _ h.5 (kind-Trim _ _ _ _ _) refl c.requires.leaf
  | inr (inr (inr (inr (inr (inr h))))) ↦ no_leaf _ _ _ h.2 (kind-Place _ _) refl c.requires.leaf
]
