-- The live items are listed in order of place.
use Rattle.std.proofs.Common.{ℕ, List, [], ◌∷◌, ◌++◌, map, length, refl, sym, ◌∙◌, ap, subst, arith, inl, inr}
use Rattle.std.proofs.lemmas.Bool.{cases_Bool}
use Rattle.std.proofs.lemmas.List.{append-nil}
use Rattle.lot_types.specs.declared.item.Item.{Item}
use Rattle.lot_group.specs.Live.{Entry, inside, within, with_inside, live}
use Rattle.lot_types.specs.Items.{is_hidden}
use Rattle.lot_group.proofs.Filters.{Each, Each-append, Each-weaker, Each-mapped}
use Rattle.lot_group.proofs.Places.{Below, At, NonEmpty}
use Rattle.lot_group.proofs.Live.{self_at, live-push, hidden_at, shown_at, entries_at-at, live-below}
use Rattle.lot_group.proofs.Items.{live-ind}
use Rattle.lot_group.proofs.Words.{Precedes}

abbrev pub Before : Entry → Entry → Type 0
Before a b = Precedes a.place b.place

abbrev pub InOrder : List Entry → Type 0
InOrder [] = Unit {0}
InOrder (e ∷ es) = Each (Before e) es × InOrder es

order-append : (xs ys : List Entry) → InOrder xs → InOrder ys → Each (λ x. Each (Before x) ys) xs → InOrder (xs ++ ys)
order-append [] ys h k b = k
order-append (x ∷ xs) ys h k b = (Each-append (Before x) xs ys h.0 b.0, order-append xs ys h.1 k b.1)

order-within : (n : ℕ) (es : List Entry) → InOrder es → InOrder (map (within n) es)
order-within n [] h = tt
order-within n (e ∷ es) h =
    (Each-mapped (Before (within n e)) (Before e) (within n) (λ f b. inr (refl, b)) es h.0, order-within n es h.1)

precedes-next : (n : ℕ) (a b : List ℕ) → Below n a → At n b → Precedes a b
precedes-next n [] b h k = absurd h
precedes-next n (i ∷ a) [] h k = absurd k
precedes-next n (i ∷ a) (j ∷ b) h k = inl (omega arith)

-- What an item holds is in order, with places that are not empty.
abbrev pub Ordered : List Entry → Type 0
Ordered es = InOrder es × Each (λ e. NonEmpty e.place) es

order-self : (n : ℕ) (x : Item) (es : List Entry) → Ordered es → InOrder (self_at n x ∷ map (within n) es)
order-self n x es h = (
  Each-mapped (Before (self_at n x)) (λ e. NonEmpty e.place) (within n) (λ e t. inr (refl, started e.place t)) es
      h.1,
  order-within n es h.0,
)
  where
    started : (p : List ℕ) → NonEmpty p → Precedes [] p
    started [] t = t
    started (i ∷ p) t = tt

ordered-push : (xs : List Item) (x : Item) → Ordered (inside x) → Ordered (live xs) → Ordered (live (xs ++ x ∷ []))
ordered-push xs x q r =
    elim (cases_Bool (is_hidden x)) [
      | inl h ↦ subst Ordered (sym (live-push xs x ∙
          (ap (λ (z : List Entry). live xs ++ z) (hidden_at (length xs) x h) ∙ append-nil (live xs)))) r
      | inr h ↦
          let new = self_at (length xs) x ∷ map (within (length xs)) (inside x) in
          let a : Each (λ e. At (length xs) e.place) new =
          subst (λ (z : List Entry). Each (λ e. At (length xs) e.place) z) (shown_at (length xs) x h)
          (entries_at-at (length xs) (with_inside x)) in
          subst Ordered (sym (live-push xs x ∙ ap (λ (z : List Entry). live xs ++ z) (shown_at (length xs) x h))) (
            order-append (live xs) new r.0 (order-self (length xs) x (inside x) q)
                (Each-weaker (λ e. Below (length xs) e.place) (λ e. Each (Before e) new)
                (λ e b. Each-weaker (λ f. At (length xs) f.place) (Before e)
                (λ f k. precedes-next (length xs) e.place f.place b k) new a) (live xs) (live-below xs)),
            Each-append (λ e. NonEmpty e.place) (live xs) new r.1
                (Each-weaker (λ e. At (length xs) e.place) (λ e. NonEmpty e.place)
                (λ e. started (length xs) e.place) new a),
          )
    ]
  where
    started : (n : ℕ) (p : List ℕ) → At n p → NonEmpty p
    started n [] t = t
    started n (i ∷ p) t = tt

pub in_order : (xs : List Item) → InOrder (live xs)
in_order xs = (live-ind Ordered (tt, tt) ordered-push xs).0
