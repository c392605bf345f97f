-- What trims leave in a list with more items at its end, and in a group of a list.
use Rattle.std.proofs.Common.{◌≡◌, ℕ, ℤ, List, [], ◌∷◌, ◌++◌, map, length, drop, Option, refl, ap, ◌∙◌, Bool, true, false, arith, suc}
use Rattle.std.proofs.lemmas.List.{length-map}
use Rattle.std.specs.Prelude.{cond}
use Rattle.lot_types.specs.declared.doc.Doc.{Doc}
use Rattle.lot_types.specs.declared.item.Item.{Item}
use Rattle.lot_types.specs.declared.outline.Outline.{Outline}
use Rattle.lot_group.specs.Live.{Entry, within, leaves, trims, live}
use Rattle.lot_group.specs.Outlines.{own_outline, trimmed, first_new, chosen, replaced, acts, after_trim, after_trims, outlines_of}
use Rattle.lot_group.proofs.Trimmed.{trimmed-length}
use Rattle.lot_group.proofs.Filters.{Each, Each-weaker}
use Rattle.lot_group.proofs.Places.{Below, At, NonEmpty, covers-later, covers-inner, covers-within, covers-own}
use Rattle.lot_group.proofs.Live.{self_at}

length-replaced : (p : Entry → Bool) (qs : List Entry) (os new : List (Option Outline)) →
    length (replaced p qs os new) ≡ length os
length-replaced p [] os new = refl
length-replaced p (q ∷ qs) [] new = refl
length-replaced p (q ∷ qs) (o ∷ os) new =
    elim (p q) as (λ b. length (cond b (first_new new ∷ replaced p qs os (drop 1 new))
    (o ∷ replaced p qs os new)) ≡ length (o ∷ os)) [
      | true ↦ ap (λ (z : ℕ). suc z) (length-replaced p qs os (drop 1 new))
      | false ↦ ap (λ (z : ℕ). suc z) (length-replaced p qs os new)
    ]

length-after : (d : Doc) (u : ℤ) (qs : List Entry) (os : List (Option Outline)) (r : Entry) →
    length (after_trim d u qs os r) ≡ length os
unfolding after_trim
length-after d u qs os r = length-replaced (acts r) qs os (trimmed d u r.item (chosen (acts r) qs os))

pub length-trims : (d : Doc) (u : ℤ) (qs : List Entry) (os : List (Option Outline)) (rs : List Entry) →
    length (after_trims d u qs os rs) ≡ length os
length-trims d u qs os [] = refl
length-trims d u qs os (r ∷ rs) = length-trims d u qs (after_trim d u qs os r) rs ∙ length-after d u qs os r

-- A test that none of the later leaves passes.
chosen-front : (p : Entry → Bool) (qs qs' : List Entry) (os os' : List (Option Outline)) → length os ≡ length qs →
    Each (λ q. p q ≡ false) qs' →
    chosen p (qs ++ qs') (os ++ os') ≡ chosen p qs os
chosen-front p [] [] [] os' e n = refl
chosen-front p [] (q ∷ qs') [] [] e n = refl
chosen-front p [] (q ∷ qs') [] (o ∷ os') e n =
    ap (λ (b : Bool). cond b (o ∷ chosen p qs' os') (chosen p qs' os')) n.0 ∙ chosen-front p [] qs' [] os' refl n.1
chosen-front p [] qs' (o ∷ os) os' e n = absurd (omega (arith, e))
chosen-front p (q ∷ qs) qs' [] os' e n = absurd (omega (arith, e))
chosen-front p (q ∷ qs) qs' (o ∷ os) os' e n =
    ap (λ (z : List (Option Outline)). cond (p q) (o ∷ z) z) (chosen-front p qs qs' os os' (cc) n)

replaced-none : (p : Entry → Bool) (qs : List Entry) (os new : List (Option Outline)) → Each (λ q. p q ≡ false) qs →
    replaced p qs os new ≡ os
replaced-none p [] os new n = refl
replaced-none p (q ∷ qs) [] new n = refl
replaced-none p (q ∷ qs) (o ∷ os) new n =
    ap (λ (b : Bool). cond b (first_new new ∷ replaced p qs os (drop 1 new)) (o ∷ replaced p qs os new)) n.0 ∙
    ap (λ (z : List (Option Outline)). o ∷ z) (replaced-none p qs os new n.1)

replaced-front : (p : Entry → Bool) (qs qs' : List Entry) (os os' new : List (Option Outline)) →
    length os ≡ length qs → Each (λ q. p q ≡ false) qs' →
    replaced p (qs ++ qs') (os ++ os') new ≡ replaced p qs os new ++ os'
replaced-front p [] qs' [] os' new e n = replaced-none p qs' os' new n
replaced-front p [] qs' (o ∷ os) os' new e n = absurd (omega (arith, e))
replaced-front p (q ∷ qs) qs' [] os' new e n = absurd (omega (arith, e))
replaced-front p (q ∷ qs) qs' (o ∷ os) os' new e n =
    (λ i. cond (p q) (first_new new ∷ replaced-front p qs qs' os os' (drop 1 new) (cc) n i)
    (o ∷ replaced-front p qs qs' os os' new (cc) n i)) ∙
    elim (p q) as (λ b. cond b (first_new new ∷ (replaced p qs os (drop 1 new) ++ os'))
    (o ∷ (replaced p qs os new ++ os')) ≡ cond b (first_new new ∷ replaced p qs os (drop 1 new))
    (o ∷ replaced p qs os new) ++ os') [
      | true ↦ refl
      | false ↦ refl
    ]

-- A test that none of the earlier leaves passes.
chosen-back : (p : Entry → Bool) (qs qs' : List Entry) (os os' : List (Option Outline)) → length os ≡ length qs →
    Each (λ q. p q ≡ false) qs →
    chosen p (qs ++ qs') (os ++ os') ≡ chosen p qs' os'
chosen-back p [] qs' [] os' e n = refl
chosen-back p [] qs' (o ∷ os) os' e n = absurd (omega (arith, e))
chosen-back p (q ∷ qs) qs' [] os' e n = absurd (omega (arith, e))
chosen-back p (q ∷ qs) qs' (o ∷ os) os' e n =
    ap (λ (b : Bool). cond b (o ∷ chosen p (qs ++ qs') (os ++ os')) (chosen p (qs ++ qs') (os ++ os'))) n.0 ∙
    chosen-back p qs qs' os os' (cc) n.1

replaced-back : (p : Entry → Bool) (qs qs' : List Entry) (os os' new : List (Option Outline)) →
    length os ≡ length qs → Each (λ q. p q ≡ false) qs →
    replaced p (qs ++ qs') (os ++ os') new ≡ os ++ replaced p qs' os' new
replaced-back p [] qs' [] os' new e n = refl
replaced-back p [] qs' (o ∷ os) os' new e n = absurd (omega (arith, e))
replaced-back p (q ∷ qs) qs' [] os' new e n = absurd (omega (arith, e))
replaced-back p (q ∷ qs) qs' (o ∷ os) os' new e n =
    ap (λ (b : Bool). cond b (first_new new ∷ replaced p (qs ++ qs') (os ++ os') (drop 1 new))
    (o ∷ replaced p (qs ++ qs') (os ++ os') new)) n.0 ∙
    ap (λ (z : List (Option Outline)). o ∷ z) (replaced-back p qs qs' os os' new (cc) n.1)

-- A test that all pass.
chosen-all : (p : Entry → Bool) (qs : List Entry) (os : List (Option Outline)) → length os ≡ length qs →
    Each (λ q. p q ≡ true) qs → chosen p qs os ≡ os
chosen-all p [] [] e n = refl
chosen-all p [] (o ∷ os) e n = absurd (omega (arith, e))
chosen-all p (q ∷ qs) [] e n = refl
chosen-all p (q ∷ qs) (o ∷ os) e n =
    ap (λ (b : Bool). cond b (o ∷ chosen p qs os) (chosen p qs os)) n.0 ∙
    ap (λ (z : List (Option Outline)). o ∷ z) (chosen-all p qs os (cc) n.1)

replaced-all : (p : Entry → Bool) (qs : List Entry) (os new : List (Option Outline)) → length os ≡ length qs →
    length new ≡ length os → Each (λ q. p q ≡ true) qs →
    replaced p qs os new ≡ new
replaced-all p [] [] [] e f n = refl
replaced-all p [] [] (v ∷ new) e f n = absurd (omega (arith, f))
replaced-all p [] (o ∷ os) new e f n = absurd (omega (arith, e))
replaced-all p (q ∷ qs) [] new e f n = absurd (omega (arith, e))
replaced-all p (q ∷ qs) (o ∷ os) [] e f n = absurd (omega (arith, f))
replaced-all p (q ∷ qs) (o ∷ os) (v ∷ new) e f n =
    ap (λ (b : Bool). cond b (v ∷ replaced p qs os new) (o ∷ replaced p qs os (v ∷ new))) n.0 ∙
    ap (λ (z : List (Option Outline)). v ∷ z) (replaced-all p qs os new (cc) (cc) n.1)

-- The same test of other leaves.
chosen-same : (p p' : Entry → Bool) (f : Entry → Entry) → ((q : Entry) → p' (f q) ≡ p q) →
    (qs : List Entry) (os : List (Option Outline)) → chosen p' (map f qs) os ≡ chosen p qs os
chosen-same p p' f h [] os = refl
chosen-same p p' f h (q ∷ qs) [] = refl
chosen-same p p' f h (q ∷ qs) (o ∷ os) =
    λ i. cond (h q i) (o ∷ chosen-same p p' f h qs os i) (chosen-same p p' f h qs os i)

replaced-same : (p p' : Entry → Bool) (f : Entry → Entry) → ((q : Entry) → p' (f q) ≡ p q) →
    (qs : List Entry) (os new : List (Option Outline)) →
    replaced p' (map f qs) os new ≡ replaced p qs os new
replaced-same p p' f h [] os new = refl
replaced-same p p' f h (q ∷ qs) [] new = refl
replaced-same p p' f h (q ∷ qs) (o ∷ os) new =
    λ i. cond (h q i) (first_new new ∷ replaced-same p p' f h qs os (drop 1 new) i)
    (o ∷ replaced-same p p' f h qs os new i)

-- 1. The trims of a list do not act on what comes later.
after-old : (d : Doc) (u : ℤ) (n : ℕ) (qs qs' : List Entry) (os os' : List (Option Outline)) (r : Entry) →
    length os ≡ length qs → Below n r.place → Each (λ e. At n e.place) qs' →
    after_trim d u (qs ++ qs') (os ++ os') r ≡ after_trim d u qs os r ++ os'
unfolding after_trim
after-old d u n qs qs' os os' r e b a =
    let k = Each-weaker (λ e. At n e.place) (λ q. acts r q ≡ false) (λ q. covers-later n r.place q.place b) qs' a in
    ap (λ (z : List (Option Outline)). replaced (acts r) (qs ++ qs') (os ++ os') (trimmed d u r.item z))
    (chosen-front (acts r) qs qs' os os' e k) ∙
    replaced-front (acts r) qs qs' os os' (trimmed d u r.item (chosen (acts r) qs os)) e k

pub trims-old : (d : Doc) (u : ℤ) (n : ℕ) (qs qs' : List Entry) (os os' : List (Option Outline)) (rs : List Entry) →
    length os ≡ length qs → Each (λ e. Below n e.place) rs → Each (λ e. At n e.place) qs' →
    after_trims d u (qs ++ qs') (os ++ os') rs ≡ after_trims d u qs os rs ++ os'
trims-old d u n qs qs' os os' [] e b a = refl
trims-old d u n qs qs' os os' (r ∷ rs) e b a =
    ap (λ (z : List (Option Outline)). after_trims d u (qs ++ qs') z rs) (after-old d u n qs qs' os os' r e b.0 a) ∙
    trims-old d u n qs qs' (after_trim d u qs os r) os' rs (length-after d u qs os r ∙ e) b.1 a

-- 2. A trim of the list itself acts on all leaves before it.
pub after-own : (d : Doc) (u : ℤ) (n : ℕ) (x : Item) (qs : List Entry) (os : List (Option Outline)) →
    length os ≡ length qs → Each (λ e. Below n e.place) qs →
    after_trim d u qs os (self_at n x) ≡ trimmed d u x os
unfolding after_trim
after-own d u n x qs os e b =
    let k = Each-weaker (λ e. Below n e.place) (λ q. acts (self_at n x) q ≡ true) (λ q. covers-own n q.place) qs b in
    ap (λ (z : List (Option Outline)). replaced (acts (self_at n x)) qs os (trimmed d u x z))
    (chosen-all (acts (self_at n x)) qs os e k) ∙
    replaced-all (acts (self_at n x)) qs os (trimmed d u x os) e (trimmed-length d u x os) k

-- 3. A trim in a group acts as in the group's own list.
after-within : (d : Doc) (u : ℤ) (n : ℕ) (qs qs' : List Entry) (os os' : List (Option Outline)) (r : Entry) →
    length os ≡ length qs → NonEmpty r.place → Each (λ e. Below n e.place) qs →
    after_trim d u (qs ++ map (within n) qs') (os ++ os') (within n r) ≡ os ++ after_trim d u qs' os' r
unfolding after_trim
after-within d u n qs qs' os os' r e t b =
    let k = Each-weaker (λ e. Below n e.place) (λ q. acts (within n r) q ≡ false)
    (λ q. covers-inner n r.place q.place t) qs b in
    let h : (q : Entry) → acts (within n r) (within n q) ≡ acts r q = λ q. covers-within n r.place q.place t in
    ap (λ (z : List (Option Outline)).
    replaced (acts (within n r)) (qs ++ map (within n) qs') (os ++ os') (trimmed d u r.item z))
    (chosen-back (acts (within n r)) qs (map (within n) qs') os os' e k ∙
    chosen-same (acts r) (acts (within n r)) (within n) h qs' os') ∙
    (replaced-back (acts (within n r)) qs (map (within n) qs') os os' (trimmed d u r.item (chosen (acts r) qs' os')) e
    k ∙
    ap (λ (z : List (Option Outline)). os ++ z)
    (replaced-same (acts r) (acts (within n r)) (within n) h qs' os' (trimmed d u r.item (chosen (acts r) qs' os'))))

pub trims-within : (d : Doc) (u : ℤ) (n : ℕ) (qs qs' : List Entry) (os os' : List (Option Outline))
    (rs : List Entry) → length os ≡ length qs → Each (λ e. NonEmpty e.place) rs → Each (λ e. Below n e.place) qs →
    after_trims d u (qs ++ map (within n) qs') (os ++ os') (map (within n) rs) ≡ os ++ after_trims d u qs' os' rs
trims-within d u n qs qs' os os' [] e t b = refl
trims-within d u n qs qs' os os' (r ∷ rs) e t b =
    ap (λ (z : List (Option Outline)). after_trims d u (qs ++ map (within n) qs') z (map (within n) rs))
    (after-within d u n qs qs' os os' r e t.0 b) ∙
    trims-within d u n qs qs' os (after_trim d u qs' os' r) rs e t.1 b

pub after_trims-append : (d : Doc) (u : ℤ) (qs : List Entry) (os : List (Option Outline)) (rs rs' : List Entry) →
    after_trims d u qs os (rs ++ rs') ≡ after_trims d u qs (after_trims d u qs os rs) rs'
after_trims-append d u qs os [] rs' = refl
after_trims-append d u qs os (r ∷ rs) rs' = after_trims-append d u qs (after_trim d u qs os r) rs rs'

pub outlines-length : (d : Doc) (u : ℤ) (xs : List Item) → length (outlines_of d u xs) ≡ length (leaves (live xs))
unfolding outlines_of
outlines-length d u xs =
    length-trims d u (leaves (live xs)) (map (λ q. own_outline d u q.item) (leaves (live xs))) (trims (live xs)) ∙
    length-map (leaves (live xs)) (λ q. own_outline d u q.item)
