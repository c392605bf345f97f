use Rattle.std.proofs.Common.{rules, ◌≡◌, ℕ, ℤ, List, [], ◌∷◌, ◌++◌, map, length, take, drop, reverse, true, false, Some, refl, ap, sym, ◌∙◌, arith}
use Rattle.std.proofs.lemmas.List.{length-take-le}
use Rattle.lot_types.specs.declared.item.Item.{the_lemmas}
use Rattle.lot_types.specs.Items.{leaf, kind_of, is_hidden}
use Rattle.lot_types.proofs.Variants.{kind-Group, kind-Trim, kind-Place}
use Rattle.lot_group.specs.declared.pass.Pass.{Pass}
use Rattle.lot_group.specs.Outlines.{outlines_of}
use Rattle.lot_group.specs.Painting.{paintings_of}
use Rattle.lot_group.specs.Pass.{present_painting, maps_of, placed}
use Rattle.lot_group.specs.Place.{items_of}
use Rattle.lot_group.specs.Product.{map_product}
use Rattle.lot_group.specs.Trim.{trimmed_by}
use Rattle.lot_types.specs.declared.matrix.Matrix.{Matrix}
use Rattle.lot_group.proofs.Adds.{adds-hidden, adds-transform}
use Rattle.lot_group.proofs.Items.{leaf_is}
use Rattle.lot_group.proofs.Alternatives.{leaf-one_of, style-one_of}
use Rattle.lot_group.proofs.Limits.{items-of_group, values-at, trim-values}
use Rattle.lot_group.proofs.Lists.{list-Group}
use Rattle.lot_group.proofs.Steps.{starts, Gathered-at, skips, takes_leaf, takes_group, takes_style, takes_trim, longer, group_matrix-is, group_opacity-is, own_outline-is}
use Rattle.lot_group.proofs.Trimmed.{trim-is}
use Rattle.lot_group.proofs.pass.Pass.+visit.Goals as goal
use Rattle.lot_group.proofs.pass.Pass.+visit.Goals.{in-Trim+in_ok-trim-in-Trim, in-Group+in_ok-open_group-in-Group+in_ok-visit-in-Group, in-Place, in-Fill+in_ok-add_style-in-Fill, in-Rect+in_ok-outline-in-Rect+in_ok-add_leaf-in-Rect}

pub loop-k-init : goal.loop-k-init
loop-k-init t c = record { gathered = starts _ _ _; place = refl; matrices = refl; opacities = refl }

pub loop-k-preserved-then-is_hidden : goal.loop-k-preserved-then-is_hidden
loop-k-preserved-then-is_hidden t c =
    let hidden : is_hidden c.index-items-k.result ≡ true = sym c.is_hidden.ensures ∙ c.if-is_hidden.true in
    record {
      gathered =
          Gathered-at _ _ _ c.args.items.now c.loop-k.k c.index-items-k.result _ _ _ c.loop-k-test.true
          c.index-items-k.is
          (skips _ _ _ (take c.loop-k.k c.args.items.now) c.index-items-k.result _ _ _ _ _ _
          c.loop-k.invariant.gathered (adds-hidden _ _ _ _ hidden) refl refl refl);
      place = c.loop-k.invariant.place;
      matrices = c.loop-k.invariant.matrices;
      opacities = c.loop-k.invariant.opacities;
    }

pub placement_of-placement-requires : goal.placement_of-placement-requires
placement_of-placement-requires t c =
    items-of_group c.args.d.now c.args.items.now c.items.result.now c.loop-k.k c.index-items-k.result c.requires
    c.loop-k-test.true c.index-items-k.is
    (ap items_of c.in-Group.is ∙ (list-Group c.in-Group.hidden c.in-Group.it ∙ sym c.items.ensures))

pub visit-requires : goal.visit-requires
visit-requires t c = (
  search (rules, the_lemmas),
  items-of_group c.args.d.now c.args.items.now c.items-in-Group.result.now c.loop-k.k c.index-items-k.result
      c.requires c.loop-k-test.true c.index-items-k.is
      (ap items_of c.in-Group.is ∙ (list-Group c.in-Group.hidden c.in-Group.it ∙ sym c.items-in-Group.ensures)),
)

pub close_group-requires : goal.close_group-requires
close_group-requires t c =
    let first : c.len-first-in-Group.result ≡ length c.loop-k.self.maps.items = search rules in
    let opened : length c.open_group.new.self.maps.items ≡ length c.loop-k.self.maps.items =
    ap length c.in_ok-open_group-in-Group.ensures.maps in
    omega (
      arith,
      first,
      opened,
      longer c.visit.new.self.maps.items c.open_group.new.self.maps.items _ c.in_ok-visit-in-Group.ensures.maps,
    )

pub cut_at-cut-requires-clause-s : goal.cut_at-cut-requires-clause-s
cut_at-cut-requires-clause-s t c =
    (trim-values c.args.d.now c.index-items-k.result _ _ _ _ _ c.in-Trim.is
    (values-at c.args.d.now c.args.items.now c.loop-k.k c.index-items-k.result c.requires c.loop-k-test.true
    c.index-items-k.is)).0

pub cut_at-cut-requires-clause-e : goal.cut_at-cut-requires-clause-e
cut_at-cut-requires-clause-e t c =
    (trim-values c.args.d.now c.index-items-k.result _ _ _ _ _ c.in-Trim.is
    (values-at c.args.d.now c.args.items.now c.loop-k.k c.index-items-k.result c.requires c.loop-k-test.true
    c.index-items-k.is)).1

pub cut_at-cut-requires-clause-o : goal.cut_at-cut-requires-clause-o
cut_at-cut-requires-clause-o t c =
    (trim-values c.args.d.now c.index-items-k.result _ _ _ _ _ c.in-Trim.is
    (values-at c.args.d.now c.args.items.now c.loop-k.k c.index-items-k.result c.requires c.loop-k-test.true
    c.index-items-k.is)).2

pub trim-requires : goal.trim-requires
trim-requires t c =
    let from : c.len-from.result ≡ length c.args.self.now.outlines.items = search rules in
    omega (
      arith,
      from,
      longer c.loop-k.self.outlines.items c.args.self.now.outlines.items _ c.loop-k.invariant.gathered.outlines,
    )

pub add_style-requires : goal.add_style-requires
add_style-requires t c =
    let first : c.len-first.result ≡ length c.args.self.now.maps.items = search rules in
    omega (
      arith,
      first,
      longer c.loop-k.self.maps.items c.args.self.now.maps.items _ c.loop-k.invariant.gathered.maps,
    )

pub contours-requires-clause-leaf : goal.contours-requires-clause-leaf
contours-requires-clause-leaf t c = leaf_is c.index-items-k.result leaf (leaf-one_of _ c.in-Rect.is)

pub contours-requires-clause-values : goal.contours-requires-clause-values
contours-requires-clause-values t c =
    values-at c.args.d.now c.args.items.now c.loop-k.k c.index-items-k.result c.requires c.loop-k-test.true
    c.index-items-k.is

pub loop-k-preserved : goal.loop-k-preserved
loop-k-preserved t c =
    let d = c.args.d.now in
    let u = c.args.t in
    let k = c.loop-k.k in
    let x = c.index-items-k.result in
    let done = take k c.args.items.now in
    let before = c.loop-k.invariant in
    let shown : is_hidden x ≡ false = sym c.is_hidden.ensures ∙ c.if-is_hidden.false in
    let at : k ≡ length done = omega (arith, length-take-le k c.args.items.now (omega arith)) in
    elim c.match-item.branch [
      | in-Group+in_ok-open_group-in-Group+in_ok-visit-in-Group w ↦
          let o = w.in_ok-open_group-in-Group.ensures in
          let v = w.in_ok-visit-in-Group.ensures in
          let e = w.close_group.ensures in
          let it = w.items-in-Group.result.now in
          let placement = w.placement_of-placement.result in
          let list : items_of x ≡ w.in-Group.it = ap items_of w.in-Group.is ∙ list-Group _ _ in
          let first : w.len-first-in-Group.result ≡ length c.loop-k.self.maps.items =
          omega (arith, w.len-first-in-Group.ensures, c.loop-k.self.maps.ok.0) in
          let pl = o.place ∙ ap (λ (z : List ℕ). z ++ k ∷ []) before.place in
          let ma = o.matrices ∙ ap (λ (z : List Matrix). z ++ placement.matrix ∷ []) before.matrices in
          let op = o.opacities ∙ ap (λ (z : List ℤ). z ++ placement.opacity ∷ []) before.opacities in
          record {
            gathered =
                Gathered-at d u _ c.args.items.now k x _ _ _ c.loop-k-test.true c.index-items-k.is
                (takes_group d u _ done x _ _ _ _ _ _ before.gathered it placement.matrix placement.opacity
                w.visit.new.self.maps.items k w.len-first-in-Group.result
                (ap kind_of w.in-Group.is ∙ kind-Group _ _) shown (list ∙ sym w.items-in-Group.ensures)
                (group_matrix-is d u x _ placement.matrix (list ∙ sym w.items.ensures)
                w.placement_of-placement.ensures.matrix)
                (group_opacity-is d u x _ placement.opacity (list ∙ sym w.items.ensures)
                w.placement_of-placement.ensures.opacity) at first
                (ap (λ (z : Pass). map Some z.outlines.items) w.self-is ∙ (ap (map Some) e.outlines ∙
                (v.outlines ∙ (λ i. map Some (o.outlines i) ++ outlines_of d u it))))
                (v.maps ∙ (λ i. map Some (o.maps i) ++ maps_of d u it))
                (ap (λ (z : Pass). z.maps.items) w.self-is ∙ e.maps)
                (ap (λ (z : Pass). map present_painting z.styles.items) w.self-is ∙
                (ap (map present_painting) e.styles ∙ (v.styles ∙ (λ i. map present_painting (o.styles i) ++
                map (placed record { place = pl i; matrices = ma i; opacities = op i } (length (o.outlines i)))
                (paintings_of d u it))))));
            place =
                ap (λ (z : Pass). z.place.items) w.self-is ∙ e.place c.args.self.now.place.items k (v.place ∙ pl);
            matrices =
                ap (λ (z : Pass). z.matrices.items) w.self-is ∙
                e.matrices c.args.self.now.matrices.items placement.matrix (v.matrices ∙ ma);
            opacities =
                ap (λ (z : Pass). z.opacities.items) w.self-is ∙
                e.opacities c.args.self.now.opacities.items placement.opacity (v.opacities ∙ op);
          }
      | in-Fill+in_ok-add_style-in-Fill w ↦
          let e = w.in_ok-add_style-in-Fill.ensures in
          record {
            gathered =
                Gathered-at d u _ c.args.items.now k x _ _ _ c.loop-k-test.true c.index-items-k.is
                (takes_style d u _ done x _ _ _ _ _ _ before.gathered k c.len-from.result c.len-first.result
                (style-one_of x w.in-Fill.is) shown at
                (omega (arith, c.len-from.ensures, c.args.self.now.outlines.ok.0))
                (omega (arith, c.len-first.ensures, c.args.self.now.maps.ok.0))
                (ap (λ (z : Pass). z.outlines.items) w.self-is ∙ e.outlines)
                (ap (λ (z : Pass). z.maps.items) w.self-is ∙ e.maps)
                (ap (λ (z : Pass). map present_painting z.styles.items) w.self-is ∙
                (e.styles ∙ (λ i. map present_painting c.loop-k.self.styles.items ++ record {
                  place = before.place i ++ k ∷ [];
                  from = c.len-from.result;
                  to = length c.loop-k.self.outlines.items;
                  matrix = map_product (map Some (reverse (before.matrices i)));
                  groups = map Some (reverse (before.opacities i));
                  maps = map Some (drop c.len-first.result c.loop-k.self.maps.items);
                } ∷ []))));
            place = ap (λ (z : Pass). z.place.items) w.self-is ∙ (e.place ∙ before.place);
            matrices = ap (λ (z : Pass). z.matrices.items) w.self-is ∙ (e.matrices ∙ before.matrices);
            opacities = ap (λ (z : Pass). z.opacities.items) w.self-is ∙ (e.opacities ∙ before.opacities);
          }
      | in-Rect+in_ok-outline-in-Rect+in_ok-add_leaf-in-Rect w ↦
          let e = w.in_ok-add_leaf-in-Rect.ensures in
          let outline = w.in_ok-outline-in-Rect.outline in
          record {
            gathered =
                Gathered-at d u _ c.args.items.now k x _ _ _ c.loop-k-test.true c.index-items-k.is
                (takes_leaf d u _ done x _ _ _ _ _ _ before.gathered outline
                (own_outline-is d u x outline w.in_ok-outline-in-Rect.ensures) (leaf-one_of x w.in-Rect.is) shown
                (ap (λ (z : Pass). z.outlines.items) w.self-is ∙ e.outlines)
                (ap (λ (z : Pass). z.maps.items) w.self-is ∙ e.maps)
                (ap (λ (z : Pass). z.styles.items) w.self-is ∙ e.styles));
            place = ap (λ (z : Pass). z.place.items) w.self-is ∙ (e.place ∙ before.place);
            matrices = ap (λ (z : Pass). z.matrices.items) w.self-is ∙ (e.matrices ∙ before.matrices);
            opacities = ap (λ (z : Pass). z.opacities.items) w.self-is ∙ (e.opacities ∙ before.opacities);
          }
      | in-Trim+in_ok-trim-in-Trim w ↦
          let e = w.in_ok-trim-in-Trim.ensures in
          let m = w.in-Trim.m in
          let cut = w.cut_at-cut.result in
          let left = trimmed_by m cut (drop c.len-from.result c.loop-k.self.outlines.items) in
          record {
            gathered =
                Gathered-at d u _ c.args.items.now k x _ _ _ c.loop-k-test.true c.index-items-k.is
                (takes_trim d u _ done x _ _ _ _ _ _ before.gathered c.len-from.result left
                (ap kind_of w.in-Trim.is ∙ kind-Trim _ _ _ _ _) shown
                (omega (arith, c.len-from.ensures, c.args.self.now.outlines.ok.0))
                (trim-is d u x _ _ _ _ m cut _ w.in-Trim.is w.cut_at-cut.ensures)
                (ap (λ (z : Pass). z.outlines.items) w.self-is ∙ e.outlines)
                (ap (λ (z : Pass). z.maps.items) w.self-is ∙ e.maps)
                (ap (λ (z : Pass). z.styles.items) w.self-is ∙ e.styles));
            place = ap (λ (z : Pass). z.place.items) w.self-is ∙ (e.place ∙ before.place);
            matrices = ap (λ (z : Pass). z.matrices.items) w.self-is ∙ (e.matrices ∙ before.matrices);
            opacities = ap (λ (z : Pass). z.opacities.items) w.self-is ∙ (e.opacities ∙ before.opacities);
          }
      | in-Place w ↦
          record {
            gathered =
                Gathered-at d u _ c.args.items.now k x _ _ _ c.loop-k-test.true c.index-items-k.is
                (skips d u _ done x _ _ _ _ _ _ before.gathered
                (adds-transform d u done x (ap kind_of w.in-Place.is ∙ kind-Place _ _) shown)
                (ap (λ (z : Pass). z.outlines.items) w.self-is)
                (ap (λ (z : Pass). z.maps.items) w.self-is)
                (ap (λ (z : Pass). z.styles.items) w.self-is));
            place = ap (λ (z : Pass). z.place.items) w.self-is ∙ before.place;
            matrices = ap (λ (z : Pass). z.matrices.items) w.self-is ∙ before.matrices;
            opacities = ap (λ (z : Pass). z.opacities.items) w.self-is ∙ before.opacities;
          }
    ]
