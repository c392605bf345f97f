-- What a whole pass has collected.
use Rattle.std.proofs.Common.{◌≡◌, ℕ, ℤ, ◌+◌, List, [], ◌∷◌, map, length, Some, refl, ap, sym, ◌∙◌, subst, arith}
use Rattle.std.proofs.lemmas.List.{append-nil, length-map}
use Rattle.std.specs.List.{All}
use Rattle.lot_types.specs.declared.collected.Collected.{Collected}
use Rattle.lot_types.specs.declared.doc.Doc.{Doc}
use Rattle.lot_types.specs.declared.item.Item.{Item}
use Rattle.lot_types.specs.declared.painted.Painted.{Painted}
use Rattle.lot_types.specs.Items.{AreItemsOf}
use Rattle.lot_types.specs.Painting.{IsWithin}
use Rattle.lot_types.proofs.Present.{all_are_present, present}
use Rattle.lot_group.specs.Collected.{painted_with, painted_of, collected_with, collected, LeadsToStyle}
use Rattle.lot_group.specs.Outlines.{outlines_of}
use Rattle.lot_group.specs.Painting.{Painting, paintings_of}
use Rattle.lot_group.specs.Pass.{OpenGroups, present_painting, placed}
use Rattle.lot_group.proofs.Filters.{Each, all-from}
use Rattle.lot_group.proofs.Ranges.{IsUsable, usable}
use Rattle.lot_group.proofs.Styles.{paintings-lead}

-- No group is open.
abbrev pub none_open : OpenGroups
none_open = record { place = []; matrices = []; opacities = [] }

pub placed-top : (ps : List Painting) → map (placed none_open 0) ps ≡ ps
placed-top [] = refl
placed-top (p ∷ ps) =
    let f : 0 + p.from ≡ p.from = omega arith in
    let t : 0 + p.to ≡ p.to = omega arith in
    let gs = append-nil p.groups in
    λ i. record {
      place = p.place;
      from = f i;
      to = t i;
      matrix = p.matrix;
      groups = gs i;
      maps = p.maps;
    } ∷ placed-top ps i

painted_of-present : (ps : List Painted) → map Some ps ≡ map painted_of (map present_painting ps)
painted_of-present [] = refl
painted_of-present (p ∷ ps) =
    let gs = sym (all_are_present p.groups) in
    let ms = sym (all_are_present p.maps) in
    λ i. painted_with p.place p.from p.to (Some p.matrix) (gs i) (ms i) ∷ painted_of-present ps i

pub collected-is : (d : Doc) (u : ℤ) (xs : List Item) (c : Collected) → map Some c.leaves ≡ outlines_of d u xs →
    map present_painting c.styles ≡ paintings_of d u xs → collected d u xs ≡ Some c
unfolding collected
collected-is d u xs c o p =
    let leaves = present c.leaves (outlines_of d u xs) o in
    let styles = present c.styles (map painted_of (paintings_of d u xs))
    (painted_of-present c.styles ∙ ap (map painted_of) p) in
    λ i. collected_with (leaves i) (styles i)

each_present : (Q : Painting → Type 0) (R : Painted → Type 0) → ((p : Painted) → Q (present_painting p) → R p) →
    (ps : List Painted) → Each Q (map present_painting ps) → Each R ps
each_present Q R f [] h = tt
each_present Q R f (p ∷ ps) h = (f p h.0, each_present Q R f ps h.1)

within-one : (n : ℕ) (p : Painted) → IsUsable n (present_painting p) → IsWithin n p
within-one n p u = record {
  ordered = u.ordered;
  inside = u.inside;
  mapped = ap (λ (z : ℕ). p.from + z) (sym (length-map p.maps Some)) ∙ u.mapped;
}

pub all-within : (d : Doc) (u : ℤ) (xs : List Item) (c : Collected) → map Some c.leaves ≡ outlines_of d u xs →
    map present_painting c.styles ≡ paintings_of d u xs → All (IsWithin (length c.leaves)) c.styles
all-within d u xs c o p =
    let n : length (outlines_of d u xs) ≡ length c.leaves = ap length (sym o) ∙ length-map c.leaves Some in
    let h = subst (λ (z : List Painting). Each (IsUsable (length (outlines_of d u xs))) z) (sym p) (usable d u xs) in
    all-from (IsWithin (length c.leaves)) c.styles
    (each_present (IsUsable (length (outlines_of d u xs))) (IsWithin (length c.leaves))
    (λ q k. subst (λ (z : ℕ). IsWithin z q) n (within-one _ q k)) c.styles h)

pub all-lead : (d : Doc) (u : ℤ) (xs : List Item) (c : Collected) → AreItemsOf d xs →
    map present_painting c.styles ≡ paintings_of d u xs → All (λ p. LeadsToStyle d xs p.place) c.styles
all-lead d u xs c h p =
    all-from (λ p. LeadsToStyle d xs p.place) c.styles
    (each_present (λ q. LeadsToStyle d xs q.place) (λ q. LeadsToStyle d xs q.place) (λ q l. l) c.styles
    (subst (Each (λ q. LeadsToStyle d xs q.place)) (sym p) (paintings-lead d u xs h)))
