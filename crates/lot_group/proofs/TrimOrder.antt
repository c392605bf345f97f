-- The trims of one leaf are listed from the longest place to the shortest.
use Rattle.std.proofs.Common.{◌≡◌, ℕ, ◌<◌, List, [], ◌∷◌, ◌++◌, length, ap, sym, ◌∙◌, subst, Bool, true, false, arith, inl, inr, ◌⊎◌}
use Rattle.std.proofs.lemmas.List.{length_push}
use Rattle.std.specs.List.{filter}
use Rattle.std.specs.Prelude.{cond}
use Rattle.lot_types.specs.declared.item.Item.{Item}
use Rattle.lot_group.specs.Live.{Entry, is_trim, live, trims}
use Rattle.lot_group.specs.Outlines.{acts}
use Rattle.lot_group.specs.TrimOrder.{IsInner, IsInnerToEach, IsInnerFirst, trims_of}
use Rattle.lot_group.proofs.Filters.{Each, Each-filter, filter_passed}
use Rattle.lot_group.proofs.Order.{InOrder, in_order, Before}
use Rattle.lot_group.proofs.Words.{Precedes, Covers-from, inner_first}

order-filter : (p : Entry → Bool) (es : List Entry) → InOrder es → InOrder (filter p es)
order-filter p [] h = tt
order-filter p (e ∷ es) h =
    elim (p e) as (λ b. InOrder (cond b (e ∷ filter p es) (filter p es))) [
      | true ↦ (Each-filter (Before e) p es h.0, order-filter p es h.1)
      | false ↦ order-filter p es h.1
    ]

inner-of : (r r' : Entry) (l l' : List ℕ) (k k' : ℕ) → r.place ≡ l ++ k ∷ [] → r'.place ≡ l' ++ k' ∷ [] →
    (length l' < length l) ⊎ ((l ≡ l') × (k < k')) → IsInner r r'
inner-of r r' l l' k k' e e' (inl h) =
    inl (omega (arith, ap length e, ap length e', length_push l k, length_push l' k'))
inner-of r r' l l' k k' e e' (inr h) = inr (l', k, k', e ∙ ap (λ (z : List ℕ). z ++ k ∷ []) h.0, e', h.1)

inner : (q r r' : Entry) → Before r r' → acts r q ≡ true → acts r' q ≡ true → IsInner r r'
inner q r r' b h h' =
    let c = Covers-from r.place q.place h in
    let c' = Covers-from r'.place q.place h' in
    let d = subst (λ (z : List ℕ). Precedes (c.list ++ c.k ∷ []) z) c'.style
    (subst (λ (z : List ℕ). Precedes z r'.place) c.style b) in
    inner-of r r' c.list c'.list c.k c'.k c.style c'.style
    (inner_first c.list c'.list c.k c'.k c.i c'.i c.rest c'.rest (sym c.leaf ∙ c'.leaf) c.below c'.below d)

inner-to : (q r : Entry) (rs : List Entry) → acts r q ≡ true → Each (Before r) rs → Each (λ s. acts s q ≡ true) rs →
    IsInnerToEach r rs
inner-to q r [] a h k = tt
inner-to q r (s ∷ rs) a h k = (inner q r s h.0 a k.0, inner-to q r rs a h.1 k.1)

inner-all : (q : Entry) (rs : List Entry) → InOrder rs → Each (λ s. acts s q ≡ true) rs → IsInnerFirst rs
inner-all q [] h k = tt
inner-all q (r ∷ rs) h k = (inner-to q r rs k.0 h.0 k.1, inner-all q rs h.1 k.1)

pub trims-inner_first : (xs : List Item) (q : Entry) → IsInnerFirst (trims_of xs q)
trims-inner_first xs q =
    inner-all q (trims_of xs q)
    (order-filter (λ r. acts r q) (trims (live xs)) (order-filter (λ e. is_trim e.item) (live xs) (in_order xs)))
    (filter_passed (λ r. acts r q) (trims (live xs)))
