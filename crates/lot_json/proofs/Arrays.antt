-- Within an array: what a byte does.
use Rattle.std.proofs.Common.{◌≡◌, ◌≢◌, ℕ, ◌-◌, List, [], ◌∷◌, ◌++◌, length, refl, sym, ◌∙◌, ap, subst, append-nil, append_assoc, arith}
use Rattle.lot_json.specs.declared.tree.json.Json.{Json}
use Rattle.lot_json.specs.declared.tree.json.Json.TheVariants as tree
use Rattle.lot_json.specs.Pending as pending
use Rattle.lot_json.specs.declared.machine.container.Container.{Container}
use Rattle.lot_json.specs.declared.machine.container.Container.TheVariants as container
use Rattle.lot_json.specs.Grammar.{IsWhiteSpace, Value, Element, element_space, element_value, Items, items_space, items_close, items_first, MoreItems, more_items_space, more_items_close, more_items_next}
use Rattle.lot_json.specs.Residual.{AfterValue, Completes, RestOfText}
use Rattle.lot_json.proofs.Utf8.{heads}
use Rattle.lot_json.proofs.Residual.{Leads, Ends, CanComplete, RestTransition, then-end}
use Rattle.lot_json.proofs.Begins.{IsFirst, value_first, value_some}
use Rattle.lot_json.proofs.Values.{element_can}

-- One more array or object is open within.
pub one_deeper : (stack : List Container) (o : Container) → 127 - length stack ≡ 128 - length (o ∷ stack)
one_deeper stack o = omega arith

-- The first byte of a value that other bytes follow.
pub first_of : (n c : ℕ) (f s t : List ℕ) (y : Json) → Value n f y → c ∷ t ≡ f ++ s → IsFirst c
first_of n c f s t y v e = let q = value_first n f y v in subst (λ (z : ℕ). IsFirst z) (sym (heads (e ∙ ap (λ (z : List ℕ). z ++ s) q.2)).0) q.3

-- After the '['.
pub items_some : (n : ℕ) (y : Json) → Completes pending.Items n [] y → ⊥
items_some n y (ys, items_space c r sp h e, is) = cc
items_some n y (ys, items_close e name, is) = cc
items_some n y (ys, items_first [] r z zs v h e name, is) = value_some (127 - n) z v
items_some n y (ys, items_first (c ∷ f) r z zs v h e name, is) = cc

items_space-ahead : (n c : ℕ) → IsWhiteSpace c → (t : List ℕ) (y : Json) → Completes pending.Items n (c ∷ t) y → Completes pending.Items n t y
items_space-ahead n c sp t y (ys, items_space d r s h e, is) = (ys, subst (λ (z : List ℕ). Items (127 - n) z ys) (sym (heads e).1) h, is)
items_space-ahead n c sp t y (ys, items_close e name, is) = let q = (heads e).0 in absurd (omega arith)
items_space-ahead n c sp t y (ys, items_first f r z zs v h e name, is) = let q = first_of (127 - n) c f r t z v e in absurd (omega arith)

pub items_spaced : (n c : ℕ) → IsWhiteSpace c → Leads c (Completes pending.Items n) (Completes pending.Items n)
items_spaced n c sp = record {
  some = items_some n;
  ahead = items_space-ahead n c sp;
  back = λ t y h. (h.0, items_space c t sp h.1 refl, h.2);
}

items_close-ahead : (n c : ℕ) → c ≡ 93 → (t : List ℕ) (y : Json) → Completes pending.Items n (c ∷ t) y → (t ≡ []) × (y ≡ tree.Items [])
items_close-ahead n c a t y (ys, items_space d r s h e, is) = let q = (heads e).0 in absurd (omega arith)
items_close-ahead n c a t y (ys, items_close e name, is) = ((heads e).1, is ∙ ap tree.Items name)
items_close-ahead n c a t y (ys, items_first f r z zs v h e name, is) = let q = first_of (127 - n) c f r t z v e in absurd (omega arith)

pub items_closed : (n c : ℕ) → c ≡ 93 → Ends c (Completes pending.Items n) (tree.Items [])
items_closed n c a = record {
  some = items_some n;
  ahead = items_close-ahead n c a;
  back = ([], items_close (ap (λ (z : ℕ). z ∷ []) a) refl, refl);
}

-- Any other byte is read as the first of an item.
pub items_item-ahead : (c : ℕ) → (IsWhiteSpace c → ⊥) → c ≢ 93 → (stack : List Container) (r : List ℕ) (x : Json) → RestOfText pending.Items stack (c ∷ r) x → RestOfText pending.Value (container.Array [] ∷ stack) (c ∷ r) x
items_item-ahead c sp a stack r x (b, s, y, (ys, items_space d t p h e', is), e, puts) = absurd (sp (subst (λ (z : ℕ). IsWhiteSpace z) (sym (heads (e ∙ ap (λ (z : List ℕ). z ++ s) e')).0) p))
items_item-ahead c sp a stack r x (b, s, y, (ys, items_close e' name, is), e, puts) = absurd (a (heads (e ∙ ap (λ (z : List ℕ). z ++ s) e')).0)
items_item-ahead c sp a stack r x (b, s, y, (ys, items_first f t z zs v h e' name, is), e, puts) = (
  f,
  t ++ s,
  z,
  subst (λ (m : ℕ). Element m f z) (one_deeper stack (container.Array [])) (element_value v),
  e ∙ ap (λ (w : List ℕ). w ++ s) e' ∙ append_assoc f t s,
  (t, s, zs, h, refl, subst (λ (w : Json). AfterValue stack w s x) (is ∙ ap tree.Items name) puts),
)

items_item-build : (n c : ℕ) → (IsWhiteSpace c → ⊥) → (f s t b : List ℕ) (y : Json) (ys : List Json) → Element n f y → c ∷ t ≡ f ++ s → MoreItems n b ys → Items n (f ++ b) (y ∷ ys)
items_item-build n c sp f s t b y ys (element_space d r p h e) k m = absurd (sp (subst (λ (z : ℕ). IsWhiteSpace z) (sym (heads (k ∙ ap (λ (z : List ℕ). z ++ s) e)).0) p))
items_item-build n c sp f s t b y ys (element_value v) k m = items_first f b y ys v m refl refl

pub items_item-back : (c : ℕ) → (IsWhiteSpace c → ⊥) → (stack : List Container) (r : List ℕ) (x : Json) → RestOfText pending.Value (container.Array [] ∷ stack) (c ∷ r) x → RestOfText pending.Items stack (c ∷ r) x
items_item-back c sp stack r x (f, s, y, h, e, (b, s', ys, m, e', puts)) =
    let k = subst (λ (n : ℕ). Element n f y) (sym (one_deeper stack (container.Array []))) h in
    (f ++ b, s', tree.Items (y ∷ ys), (y ∷ ys, items_item-build (127 - length stack) c sp f s r b y ys k e m, refl), e ∙ ap (λ (z : List ℕ). f ++ z) e' ∙ sym (append_assoc f b s'), puts)

-- After an item.
pub after_item_can : (items : List Json) (n : ℕ) → CanComplete (Completes (pending.AfterItem items) n)
after_item_can items n = (93 ∷ [], tree.Items (items ++ []), ([], more_items_close refl refl, refl))

pub after_item_some : (items : List Json) (n : ℕ) (y : Json) → Completes (pending.AfterItem items) n [] y → ⊥
after_item_some items n y (ys, more_items_space c r sp h e, is) = cc
after_item_some items n y (ys, more_items_close e name, is) = cc
after_item_some items n y (ys, more_items_next f r z zs v h e name, is) = cc

after_item_space-ahead : (items : List Json) (n c : ℕ) → IsWhiteSpace c → (t : List ℕ) (y : Json) → Completes (pending.AfterItem items) n (c ∷ t) y → Completes (pending.AfterItem items) n t y
after_item_space-ahead items n c sp t y (ys, more_items_space d r s h e, is) = (ys, subst (λ (z : List ℕ). MoreItems (127 - n) z ys) (sym (heads e).1) h, is)
after_item_space-ahead items n c sp t y (ys, more_items_close e name, is) = let q = (heads e).0 in absurd (omega arith)
after_item_space-ahead items n c sp t y (ys, more_items_next f r z zs v h e name, is) = let q = (heads e).0 in absurd (omega arith)

pub after_item_spaced : (items : List Json) (n c : ℕ) → IsWhiteSpace c → Leads c (Completes (pending.AfterItem items) n) (Completes (pending.AfterItem items) n)
after_item_spaced items n c sp = record {
  some = after_item_some items n;
  ahead = after_item_space-ahead items n c sp;
  back = λ t y h. (h.0, more_items_space c t sp h.1 refl, h.2);
}

after_item_close-ahead : (items : List Json) (n c : ℕ) → c ≡ 93 → (t : List ℕ) (y : Json) → Completes (pending.AfterItem items) n (c ∷ t) y → (t ≡ []) × (y ≡ tree.Items items)
after_item_close-ahead items n c a t y (ys, more_items_space d r s h e, is) = let q = (heads e).0 in absurd (omega arith)
after_item_close-ahead items n c a t y (ys, more_items_close e name, is) = ((heads e).1, is ∙ ap (λ (z : List Json). tree.Items (items ++ z)) name ∙ ap tree.Items (append-nil items))
after_item_close-ahead items n c a t y (ys, more_items_next f r z zs v h e name, is) = let q = (heads e).0 in absurd (omega arith)

pub after_item_closed : (items : List Json) (n c : ℕ) → c ≡ 93 → Ends c (Completes (pending.AfterItem items) n) (tree.Items items)
after_item_closed items n c a = record {
  some = after_item_some items n;
  ahead = after_item_close-ahead items n c a;
  back = ([], more_items_close (ap (λ (z : ℕ). z ∷ []) a) refl, ap tree.Items (sym (append-nil items)));
}

after_item_comma-ahead : (items : List Json) (c : ℕ) → c ≡ 44 → (stack : List Container) (r : List ℕ) (x : Json) → RestOfText (pending.AfterItem items) stack (c ∷ r) x → RestOfText pending.Value (container.Array items ∷ stack) r x
after_item_comma-ahead items c a stack r x (b, s, y, (ys, more_items_space d t p h e', is), e, puts) = let q = (heads (e ∙ ap (λ (z : List ℕ). z ++ s) e')).0 in absurd (omega arith)
after_item_comma-ahead items c a stack r x (b, s, y, (ys, more_items_close e' name, is), e, puts) = let q = (heads (e ∙ ap (λ (z : List ℕ). z ++ s) e')).0 in absurd (omega arith)
after_item_comma-ahead items c a stack r x (b, s, y, (ys, more_items_next f t z zs v h e' name, is), e, puts) = (
  f,
  t ++ s,
  z,
  subst (λ (m : ℕ). Element m f z) (one_deeper stack (container.Array items)) v,
  (heads (e ∙ ap (λ (w : List ℕ). w ++ s) e')).1 ∙ append_assoc f t s,
  (t, s, zs, h, refl, subst (λ (w : Json). AfterValue stack w s x) (is ∙ ap (λ (w : List Json). tree.Items (items ++ w)) name ∙ ap tree.Items (sym (append_assoc items (z ∷ []) zs))) puts),
)

after_item_comma-back : (items : List Json) (c : ℕ) → c ≡ 44 → (stack : List Container) (r : List ℕ) (x : Json) → RestOfText pending.Value (container.Array items ∷ stack) r x → RestOfText (pending.AfterItem items) stack (c ∷ r) x
after_item_comma-back items c a stack r x (f, s, y, h, e, (b, s', ys, m, e', puts)) =
    let k = subst (λ (n : ℕ). Element n f y) (sym (one_deeper stack (container.Array items))) h in (
      44 ∷ (f ++ b),
      s',
      tree.Items (items ++ (y ∷ ys)),
      (y ∷ ys, more_items_next f b y ys k m refl refl, refl),
      ap (λ (z : ℕ). z ∷ r) a ∙ ap (λ (z : List ℕ). 44 ∷ z) (e ∙ ap (λ (z : List ℕ). f ++ z) e' ∙ sym (append_assoc f b s')),
      subst (λ (w : Json). AfterValue stack w s' x) (ap tree.Items (append_assoc items (y ∷ []) ys)) puts,
    )

pub after_item_comma : (items : List Json) (c : ℕ) → c ≡ 44 → (stack : List Container) → RestTransition c (pending.AfterItem items) stack pending.Value (container.Array items ∷ stack)
after_item_comma items c a stack = record {
  ahead = after_item_comma-ahead items c a stack;
  back = after_item_comma-back items c a stack;
  live = then-end (Completes pending.Value (length (container.Array items ∷ stack))) (container.Array items ∷ stack) (element_can (128 - length (container.Array items ∷ stack)));
}
