-- Each shape that the tables give is good: where there are no slots, its properties have values in any document.
use Rattle.std.proofs.Common.{ℕ, ℤ, pos, ◌==◌, Bool, [], Option, Some, None, codes, refl}
use Rattle.lot_types.specs.declared.item.Item.{Item}
use Rattle.lot_types.specs.declared.item.Item.TheOpen as item
use Rattle.lot_types.specs.declared.item.Item.TheVariants as made
use Rattle.lot_types.specs.declared.point.Point.{Point}
use Rattle.lot_types.specs.declared.prop.Prop.{Prop}
use Rattle.lot_types.specs.Curve.{Curve}
use Rattle.lot_read.specs.Number.{any, number}
use Rattle.lot_read.specs.Rows.{maybe}
use Rattle.lot_doc.specs.declared.polystar.Radii.{Radii}
use Rattle.lot_doc.specs.declared.polystar.Spokes.{Spokes}
use Rattle.lot_doc.specs.ItemHead.{head_rows}
use Rattle.lot_doc.specs.Shape.{rectangle_rows, ellipse_rows, spokes_rows, inner_radius, radii_rows, star_kind, polystar_rows, path_rows}
use Rattle.lot_doc.proofs.GoodItems.{IsGood, single, EverBezier, scalar_needed, vector_needed, bezier_needed}
use Rattle.lot_doc.proofs.Only.{RowsGiveOnly, good_only, if_only, row_only, any_row_only}
use Rattle.lot_doc.proofs.OnlyTransform.{EverScalar, EverVector, scalar_or_only}

good_rectangle : (hidden : Bool) (p : Prop Point) → EverVector p → (s : Prop Point) → EverVector s → (r : Prop ℤ) → EverScalar r
    → (d : Option ℤ) → IsGood (made.Rect hidden p s r d)
good_rectangle hidden p ever_p s ever_s r ever_r d =
    single (made.Rect hidden p s r d) (item.Rect hidden p s r d) (made.outs-Rect hidden p s r d) tt
    (λ doc. (ever_p doc, ever_s doc, ever_r doc)) refl

pub rectangle_only : RowsGiveOnly IsGood (rectangle_rows [])
unfolding rectangle_rows
rectangle_only at m =
    any_row_only (maybe (codes "d") (number any) at m)
    (row_only (scalar_or_only (pos 0) (codes "r") at m)
    (row_only (vector_needed (codes "s") at m)
    (row_only (vector_needed (codes "p") at m)
    (any_row_only (head_rows at m)
    (good_only (λ (hidden : Bool) (p s : Prop Point) (r : Prop ℤ) (d : Option ℤ). made.Rect hidden p s r d) good_rectangle)))))

good_ellipse : (hidden : Bool) (p : Prop Point) → EverVector p → (s : Prop Point) → EverVector s → (d : Option ℤ)
    → IsGood (made.Ellipse hidden p s d)
good_ellipse hidden p ever_p s ever_s d =
    single (made.Ellipse hidden p s d) (item.Ellipse hidden p s d) (made.outs-Ellipse hidden p s d) tt
    (λ doc. (ever_p doc, ever_s doc)) refl

pub ellipse_only : RowsGiveOnly IsGood (ellipse_rows [])
unfolding ellipse_rows
ellipse_only at m =
    any_row_only (maybe (codes "d") (number any) at m)
    (row_only (vector_needed (codes "s") at m)
    (row_only (vector_needed (codes "p") at m)
    (any_row_only (head_rows at m)
    (good_only (λ (hidden : Bool) (p s : Prop Point) (d : Option ℤ). made.Ellipse hidden p s d) good_ellipse))))

abbrev EverSpokes : Spokes → Type 0
EverSpokes spokes = EverScalar spokes.pt × EverVector spokes.p × EverScalar spokes.r

spokes_only : RowsGiveOnly EverSpokes (spokes_rows [])
unfolding spokes_rows
spokes_only at m =
    row_only (scalar_or_only (pos 0) (codes "r") at m)
    (row_only (vector_needed (codes "p") at m)
    (row_only (scalar_needed (codes "pt") at m)
    (good_only _ (λ pt ever_pt p ever_p r ever_r. (ever_pt, ever_p, ever_r)))))

inner_radius_only : (sy : Option ℕ) → RowsGiveOnly EverScalar (inner_radius [] sy)
inner_radius_only (Some sy) at m =
    if_only (sy == 1) (λ _. scalar_needed (codes "ir") at m) (λ _. scalar_or_only (pos 0) (codes "ir") at m)
inner_radius_only None at m = scalar_or_only (pos 0) (codes "ir") at m

abbrev EverRadii : Radii → Type 0
EverRadii radii = EverScalar radii.or_ × EverScalar radii.os × EverScalar radii.ir × EverScalar radii.is_

radii_only : (sy : Option ℕ) → RowsGiveOnly EverRadii (radii_rows [] sy)
unfolding radii_rows
radii_only sy at m =
    row_only (scalar_or_only (pos 0) (codes "is") at m)
    (row_only (inner_radius_only sy at m)
    (row_only (scalar_or_only (pos 0) (codes "os") at m)
    (row_only (scalar_needed (codes "or") at m)
    (good_only _ (λ or_ ever_or os ever_os ir ever_ir is_ ever_is. (ever_or, ever_os, ever_ir, ever_is))))))

abbrev polystar : Bool → ℕ → Spokes → Radii → Option ℤ → Item
polystar hidden sy spokes radii d = made.Star hidden sy spokes.pt spokes.p spokes.r radii.or_ radii.os radii.ir radii.is_ d

good_polystar : (hidden : Bool) (sy : ℕ) (spokes : Spokes) → EverSpokes spokes → (radii : Radii) → EverRadii radii → (d : Option ℤ)
    → IsGood (polystar hidden sy spokes radii d)
good_polystar hidden sy k ever_k r ever_r d =
    single (polystar hidden sy k r d) (item.Star hidden sy k.pt k.p k.r r.or_ r.os r.ir r.is_ d)
    (made.outs-Star hidden sy k.pt k.p k.r r.or_ r.os r.ir r.is_ d) tt
    (λ doc. (ever_k.0 doc, ever_k.1 doc, ever_k.2 doc, ever_r.0 doc, ever_r.1 doc, ever_r.2 doc, ever_r.3 doc)) refl

pub polystar_only : RowsGiveOnly IsGood (polystar_rows [])
unfolding polystar_rows
polystar_only at m =
    any_row_only (maybe (codes "d") (number any) at m)
    (row_only (radii_only (star_kind at m).value at m)
    (row_only (spokes_only at m)
    (any_row_only (star_kind at m)
    (any_row_only (head_rows at m)
    (good_only polystar good_polystar)))))

good_path : (hidden : Bool) (ks : Prop Curve) → EverBezier ks → (d : Option ℤ) → IsGood (made.Path hidden ks d)
good_path hidden ks ever d =
    single (made.Path hidden ks d) (item.Path hidden ks d) (made.outs-Path hidden ks d) tt (λ doc. ever doc) refl

pub path_only : RowsGiveOnly IsGood (path_rows [])
unfolding path_rows
path_only at m =
    any_row_only (maybe (codes "d") (number any) at m)
    (row_only (bezier_needed (codes "ks") at m)
    (any_row_only (head_rows at m)
    (good_only (λ (hidden : Bool) (ks : Prop Curve) (d : Option ℤ). made.Path hidden ks d) good_path)))
