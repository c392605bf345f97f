use Rattle.std.proofs.Common.{rules, ◌≡◌, ◌∙◌, ◌<◌, ◌≤◌, ◌+◌, ◌⊎◌, inl, inr, List, length, get_or, drop, ap, ap₂, sym, subst, arith, Less, Equal, Greater, [], ◌∷◌, ◌++◌, ℤ}
use Rattle.lot_types.specs.declared.color.Color.{Color}
use Rattle.lot_types.specs.declared.stop.Stop.{Stop}
use Rattle.lot_paint.specs.declared.list_stop.ListStop.{ListStop}
use Rattle.lot_paint.specs.Merging.{IsReached, next_order}
use Rattle.lot_paint.specs.Stops.{color_stops, opacity_stops, stop_of_color}
use Rattle.lot_paint.proofs.Merging.{IsMerging}
use Rattle.lot_paint.proofs.MergeSteps.{starts, ends, color_reaches, color_taken, opacity_reaches, opacity_taken, opacity_passed, color_within, opacity_within}
use Rattle.lot_paint.proofs.merged.merged_stops.Goals as goal
use Rattle.lot_paint.proofs.merged.merged_stops.Goals.{then-i-colors, else-i-colors+then-j-opacities}

pub loop-i-init : goal.loop-i-init
loop-i-init c =
    subst (λ (l : List Stop). IsMerging c.args.g.now 0 0 l) (sym c.in_ok-made.ensures) (starts c.args.g.now)

-- ---- a color stop is next

pub stop_of_color-requires : goal.stop_of_color-requires
stop_of_color-requires c =
    let g = c.args.g.now in
    let i = c.loop-i.i in
    let j = c.loop-i.j in
    let colors : c.items-colors.result.now ≡ color_stops g = search rules in
    let opacities : c.items-opacities.result.now ≡ opacity_stops g = search rules in
    let order : next_order (drop i (color_stops g)) (drop j (opacity_stops g)) ≡ Less =
    ap₂ (λ (l : List (ListStop Color)) (m : List (ListStop ℤ)). next_order (drop i l) (drop j m)) (sym colors) (sym opacities)
    ∙ sym c.next_order.ensures ∙ c.in-Less.is in
    let s = c.index-colors-i.result in
    let lt = color_within (color_stops g) i (opacity_stops g) j order in
    let at = c.index-colors-i.is ∙ ap (λ (l : List (ListStop Color)). get_or l i s) colors in
    subst (λ (l : List (ListStop ℤ)). IsReached l s.offset j) (sym opacities)
    (color_reaches g i j c.loop-i.made s lt at order c.loop-i.invariant)

pub loop-i-preserved-in-Less : goal.loop-i-preserved-in-Less
loop-i-preserved-in-Less c =
    let g = c.args.g.now in
    let i = c.loop-i.i in
    let j = c.loop-i.j in
    let colors : c.items-colors.result.now ≡ color_stops g = search rules in
    let opacities : c.items-opacities.result.now ≡ opacity_stops g = search rules in
    let order : next_order (drop i (color_stops g)) (drop j (opacity_stops g)) ≡ Less =
    ap₂ (λ (l : List (ListStop Color)) (m : List (ListStop ℤ)). next_order (drop i l) (drop j m)) (sym colors) (sym opacities)
    ∙ sym c.next_order.ensures ∙ c.in-Less.is in
    let s = c.index-colors-i.result in
    let lt = color_within (color_stops g) i (opacity_stops g) j order in
    let at = c.index-colors-i.is ∙ ap (λ (l : List (ListStop Color)). get_or l i s) colors in
    let pushed = c.in_ok-push-in-Less.ensures.ok
    ∙ ap (λ (t : Stop). c.loop-i.made ++ t ∷ []) (
    c.stop_of_color.ensures ∙ ap (λ (l : List (ListStop ℤ)). stop_of_color l s) opacities) in
    subst (λ (l : List Stop). IsMerging g (i + 1) j l) (sym pushed) (color_taken g i j c.loop-i.made s lt at order c.loop-i.invariant)

-- ---- both have the same offset

pub loop-i-preserved-in-Equal : goal.loop-i-preserved-in-Equal
loop-i-preserved-in-Equal c =
    let g = c.args.g.now in
    let i = c.loop-i.i in
    let j = c.loop-i.j in
    let colors : c.items-colors.result.now ≡ color_stops g = search rules in
    let opacities : c.items-opacities.result.now ≡ opacity_stops g = search rules in
    let order : next_order (drop i (color_stops g)) (drop j (opacity_stops g)) ≡ Equal =
    ap₂ (λ (l : List (ListStop Color)) (m : List (ListStop ℤ)). next_order (drop i l) (drop j m)) (sym colors) (sym opacities)
    ∙ sym c.next_order.ensures ∙ c.in-Equal.is in
    opacity_passed g i j c.loop-i.made order c.loop-i.invariant

-- ---- an opacity stop is next

pub bounds-opacities-j : goal.bounds-opacities-j
bounds-opacities-j c =
    let g = c.args.g.now in
    let i = c.loop-i.i in
    let j = c.loop-i.j in
    let colors : c.items-colors.result.now ≡ color_stops g = search rules in
    let opacities : c.items-opacities.result.now ≡ opacity_stops g = search rules in
    let order : next_order (drop i (color_stops g)) (drop j (opacity_stops g)) ≡ Greater =
    ap₂ (λ (l : List (ListStop Color)) (m : List (ListStop ℤ)). next_order (drop i l) (drop j m)) (sym colors) (sym opacities)
    ∙ sym c.next_order.ensures ∙ c.in-Greater.is in
    let some : (i < length (color_stops g)) ⊎ (j < length (opacity_stops g)) =
    elim c.if-i-colors.branch [
      | then-i-colors w ↦ inl (subst (λ (l : List (ListStop Color)). i < length l) colors w.if-i-colors.true)
      | else-i-colors+then-j-opacities w ↦ inr (subst (λ (l : List (ListStop ℤ)). j < length l) opacities w.if-j-opacities.true)
    ] in
    let lt = opacity_within (color_stops g) i (opacity_stops g) j order some in
    subst (λ (l : List (ListStop ℤ)). j < length l) (sym opacities) lt

pub stop_of_opacity-requires-clause-reached : goal.stop_of_opacity-requires-clause-reached
stop_of_opacity-requires-clause-reached c =
    let g = c.args.g.now in
    let i = c.loop-i.i in
    let j = c.loop-i.j in
    let colors : c.items-colors.result.now ≡ color_stops g = search rules in
    let opacities : c.items-opacities.result.now ≡ opacity_stops g = search rules in
    let order : next_order (drop i (color_stops g)) (drop j (opacity_stops g)) ≡ Greater =
    ap₂ (λ (l : List (ListStop Color)) (m : List (ListStop ℤ)). next_order (drop i l) (drop j m)) (sym colors) (sym opacities)
    ∙ sym c.next_order.ensures ∙ c.in-Greater.is in
    let some : (i < length (color_stops g)) ⊎ (j < length (opacity_stops g)) =
    elim c.if-i-colors.branch [
      | then-i-colors w ↦ inl (subst (λ (l : List (ListStop Color)). i < length l) colors w.if-i-colors.true)
      | else-i-colors+then-j-opacities w ↦ inr (subst (λ (l : List (ListStop ℤ)). j < length l) opacities w.if-j-opacities.true)
    ] in
    let lt = opacity_within (color_stops g) i (opacity_stops g) j order some in
    let s = c.index-opacities-j.result in
    let at = c.index-opacities-j.is ∙ ap (λ (l : List (ListStop ℤ)). get_or l j s) opacities in
    subst (λ (l : List (ListStop Color)). IsReached l s.offset i) (sym colors)
    (opacity_reaches g i j c.loop-i.made s lt at order c.loop-i.invariant)

pub loop-i-smaller : goal.loop-i-smaller
loop-i-smaller c =
    let g = c.args.g.now in
    let i = c.loop-i.i in
    let j = c.loop-i.j in
    let colors : c.items-colors.result.now ≡ color_stops g = search rules in
    let opacities : c.items-opacities.result.now ≡ opacity_stops g = search rules in
    let order : next_order (drop i (color_stops g)) (drop j (opacity_stops g)) ≡ Greater =
    ap₂ (λ (l : List (ListStop Color)) (m : List (ListStop ℤ)). next_order (drop i l) (drop j m)) (sym colors) (sym opacities)
    ∙ sym c.next_order.ensures ∙ c.in-Greater.is in
    let some : (i < length (color_stops g)) ⊎ (j < length (opacity_stops g)) =
    elim c.if-i-colors.branch [
      | then-i-colors w ↦ inl (subst (λ (l : List (ListStop Color)). i < length l) colors w.if-i-colors.true)
      | else-i-colors+then-j-opacities w ↦ inr (subst (λ (l : List (ListStop ℤ)). j < length l) opacities w.if-j-opacities.true)
    ] in
    let lt = opacity_within (color_stops g) i (opacity_stops g) j order some in
    omega (arith, lt)

pub loop-i-preserved : goal.loop-i-preserved
loop-i-preserved c =
    let g = c.args.g.now in
    let i = c.loop-i.i in
    let j = c.loop-i.j in
    let colors : c.items-colors.result.now ≡ color_stops g = search rules in
    let opacities : c.items-opacities.result.now ≡ opacity_stops g = search rules in
    let order : next_order (drop i (color_stops g)) (drop j (opacity_stops g)) ≡ Greater =
    ap₂ (λ (l : List (ListStop Color)) (m : List (ListStop ℤ)). next_order (drop i l) (drop j m)) (sym colors) (sym opacities)
    ∙ sym c.next_order.ensures ∙ c.in-Greater.is in
    let some : (i < length (color_stops g)) ⊎ (j < length (opacity_stops g)) =
    elim c.if-i-colors.branch [
      | then-i-colors w ↦ inl (subst (λ (l : List (ListStop Color)). i < length l) colors w.if-i-colors.true)
      | else-i-colors+then-j-opacities w ↦ inr (subst (λ (l : List (ListStop ℤ)). j < length l) opacities w.if-j-opacities.true)
    ] in
    let lt = opacity_within (color_stops g) i (opacity_stops g) j order some in
    let s = c.index-opacities-j.result in
    let at = c.index-opacities-j.is ∙ ap (λ (l : List (ListStop ℤ)). get_or l j s) opacities in
    let pushed = c.in_ok-push-in-Greater.ensures.ok
    ∙ ap (λ (t : Stop). c.loop-i.made ++ t ∷ []) (c.stop_of_opacity.ensures g colors) in
    subst (λ (l : List Stop). IsMerging g i (j + 1) l) (sym pushed)
    (opacity_taken g i j c.loop-i.made s lt at order c.loop-i.invariant)

-- ---- none is left

pub returns : goal.returns
returns c =
    let g = c.args.g.now in
    let colors : c.items-colors.result.now ≡ color_stops g = search rules in
    let opacities : c.items-opacities.result.now ≡ opacity_stops g = search rules in
    ends g c.loop-i.i c.loop-i.j c.loop-i.made
    (subst (λ (l : List (ListStop Color)). length l ≤ c.loop-i.i) colors c.if-i-colors.false)
    (subst (λ (l : List (ListStop ℤ)). length l ≤ c.loop-i.j) opacities c.if-j-opacities.false)
    c.loop-i.invariant
