use Rattle.std.proofs.Common.{◌≡◌, ℕ, ◌+◌, ◌-◌, ◌<◌, List, length, get_or, drop, ap, sym, ◌∙◌, subst, arith}
use Rattle.std.proofs.lemmas.List.{get_or-take, length-take-le}
use Rattle.lot_types.specs.declared.item.Item.{Item}
use Rattle.lot_group.specs.Place.{item_at}
use Rattle.lot_group.proofs.Lookup.{lookup-some, lookup-within, lookup-more, lookup-last_within, lookup-last}
use Rattle.lot_group.proofs.place.item_at.Goals as goal

pub bounds-list-k : goal.bounds-list-k
bounds-list-k c =
    let place = c.args.place.now in
    let n = length-take-le (length place - 1) place (omega arith) in
    let l : c.loop-k.k-index + 1 < length place = omega (arith, n, c.loop-k-test.true) in
    subst (λ (z : ℕ). z < length c.loop-k.list.now)
    (sym (get_or-take (length place - 1) place c.loop-k.k-index 0 (omega arith)))
    (lookup-within c.loop-k.list.now place c.loop-k.k-index c.requires.item l (c.loop-k.invariant ∙ c.requires.at))

pub loop-k-preserved : goal.loop-k-preserved
loop-k-preserved c =
    let place = c.args.place.now in
    let n = length-take-le (length place - 1) place (omega arith) in
    let l : c.loop-k.k-index + 1 < length place = omega (arith, n, c.loop-k-test.true) in
    let g = get_or-take (length place - 1) place c.loop-k.k-index 0 (omega arith) in
    let w = lookup-within c.loop-k.list.now place c.loop-k.k-index c.requires.item l
    (c.loop-k.invariant ∙ c.requires.at) in
    let y = c.index-list-k.result in
    let e : y ≡ get_or c.loop-k.list.now (get_or place c.loop-k.k-index 0) y =
    c.index-list-k.is ∙ ap (λ (z : ℕ). get_or c.loop-k.list.now z y) g in
    ap (λ (z : List Item). item_at z (drop (c.loop-k.k-index + 1) place)) c.items_of-list.ensures ∙
    (lookup-more c.loop-k.list.now place c.loop-k.k-index y l w e ∙ c.loop-k.invariant)

pub bounds-list-place : goal.bounds-list-place
bounds-list-place c =
    let place = c.args.place.now in
    let i = c.loop-k.k-index in
    let n = length-take-le (length place - 1) place (omega arith) in
    let some = lookup-some c.args.items.now place c.requires.item c.requires.at in
    let l : i + 1 ≡ length place = omega (arith, n, some, c.loop-k-test.false, c.loop-k.auto.k-index-end) in
    let w = lookup-last_within c.loop-k.list.now place i c.requires.item l (c.loop-k.invariant ∙ c.requires.at) in
    subst (λ (z : ℕ). get_or place z 0 < length c.loop-k.list.now) (omega arith) w

pub returns : goal.returns
returns c =
    let place = c.args.place.now in
    let i = c.loop-k.k-index in
    let n = length-take-le (length place - 1) place (omega arith) in
    let some = lookup-some c.args.items.now place c.requires.item c.requires.at in
    let l : i + 1 ≡ length place = omega (arith, n, some, c.loop-k-test.false, c.loop-k.auto.k-index-end) in
    let e : length place - 1 ≡ i = omega arith in
    let y = c.index-list-place.result in
    let w = lookup-last_within c.loop-k.list.now place i c.requires.item l (c.loop-k.invariant ∙ c.requires.at) in
    sym c.loop-k.invariant ∙
    lookup-last c.loop-k.list.now place i y l w
    (c.index-list-place.is ∙ ap (λ (z : ℕ). get_or c.loop-k.list.now (get_or place z 0) y) e)
