-- Within a byte order mark, a name, a string, a number or a literal name, and after the root's value: what a byte does.
use Rattle.std.proofs.Common.{◌≡◌, ◌↔◌, ◌≢◌, ℕ, ◌+◌, ◌-◌, ◌<◌, List, [], ◌∷◌, ◌++◌, length, drop, refl, sym, ◌∙◌, ap, subst, inl, inr, ⊎_elim, append_assoc, arith}
use Rattle.lot_json.specs.declared.tree.number.Number.{Number}
use Rattle.lot_json.specs.declared.tokens.number_token.NumberToken.{NumberToken}
use Rattle.lot_json.specs.declared.tokens.text_token.TextToken.{TextToken}
use Rattle.lot_json.specs.declared.tree.json.Json.{Json}
use Rattle.lot_json.specs.declared.tree.json.Json.TheVariants as tree
use Rattle.lot_json.specs.Pending.{State, at}
use Rattle.lot_json.specs.Pending as pending
use Rattle.lot_json.specs.declared.machine.container.Container.{Container}
use Rattle.lot_json.specs.declared.machine.literal.Literal.{Literal}
use Rattle.lot_json.specs.NumberRest.{NumberRest, CanEndNumber, IsNumberByte}
use Rattle.lot_json.specs.TextRest.{TextRest, CanEndText, TakesRun, EndsString, RejectsByte, text_of}
use Rattle.lot_json.specs.Grammar.{Element, AfterName}
use Rattle.lot_json.specs.Literal.{letters_of, value_of}
use Rattle.lot_json.specs.Residual.{AfterValue, Completes, RestOfText, EndsText, Transition, PlacesValue}
use Rattle.lot_json.proofs.Utf8.{heads}
use Rattle.lot_json.proofs.Residual.{Leads, LeadsOver, Ends, Stops, CanComplete, RestTransition, then-end, cut, puts-no_number, steps_within, steps_over, Same, same_at}
use Rattle.lot_json.proofs.Begins.{Begins, begins_space, begins_literal, begins_number, begins_text, begins_array, begins_object, element_begins, element_some, literal_first}
use Rattle.lot_json.proofs.Values.{element_can, items_can, members_can, value_array, value_object}
use Rattle.lot_json.proofs.NeedsMore.{text_needs}
use Rattle.lot_json.proofs.Objects.{Pairs, text_ends, name_can}

-- A byte order mark.
no_mark : (n c : ℕ) (t : List ℕ) (y : Json) → Begins n c t y → c ≢ 239
no_mark n c t y (begins_space s h) = omega arith
no_mark n c t y (begins_literal w e is) = let q = literal_first w c t e in omega arith
no_mark n c t y (begins_number m f h is) = omega arith
no_mark n c t y (begins_text s e h is) = omega arith
no_mark n c t y (begins_array m xs e d h is) = omega arith
no_mark n c t y (begins_object m ps e d h is) = omega arith

pub start_some : (n : ℕ) (y : Json) → Completes pending.Start n [] y → ⊥
start_some n y (inl h) = element_some (128 - n) y h
start_some n y (inr (t, e, h)) = cc

start_mark-ahead : (n c : ℕ) → c ≡ 239 → (t : List ℕ) (y : Json) → Completes pending.Start n (c ∷ t) y → Completes pending.MarkSecond n t y
start_mark-ahead n c a t y (inl h) = absurd (no_mark (128 - n) c t y (element_begins (128 - n) c t y h) a)
start_mark-ahead n c a t y (inr (r, e, h)) = (r, (heads e).1, h)

pub start_mark : (n c : ℕ) → c ≡ 239 → Leads c (Completes pending.Start n) (Completes pending.MarkSecond n)
start_mark n c a = record {
  some = start_some n;
  ahead = start_mark-ahead n c a;
  back = λ t y h. inr (h.0, ap (λ (z : ℕ). z ∷ t) a ∙ ap (λ (z : List ℕ). 239 ∷ z) h.1, h.2);
}

pub mark_second_can : (n : ℕ) → CanComplete (Completes pending.MarkSecond n)
mark_second_can n = let q = element_can (128 - n) in (187 ∷ 191 ∷ q.0, q.1, (q.0, refl, q.2))

pub mark_third_can : (n : ℕ) → CanComplete (Completes pending.MarkThird n)
mark_third_can n = let q = element_can (128 - n) in (191 ∷ q.0, q.1, (q.0, refl, q.2))

pub start_value-ahead : (c : ℕ) → c ≢ 239 → (stack : List Container) (r : List ℕ) (x : Json) → RestOfText pending.Start stack (c ∷ r) x → RestOfText pending.Value stack (c ∷ r) x
start_value-ahead c a stack r x (b, s, y, inl h, e, puts) = (b, s, y, h, e, puts)
start_value-ahead c a stack r x (b, s, y, inr (t, e', h), e, puts) = absurd (a (heads (e ∙ ap (λ (z : List ℕ). z ++ s) e')).0)

pub start_value-back : (c : ℕ) (stack : List Container) (r : List ℕ) (x : Json) → RestOfText pending.Value stack (c ∷ r) x → RestOfText pending.Start stack (c ∷ r) x
start_value-back c stack r x (b, s, y, h, e, puts) = (b, s, y, inl h, e, puts)

pub mark_second_leads : (n c : ℕ) → c ≡ 187 → Leads c (Completes pending.MarkSecond n) (Completes pending.MarkThird n)
mark_second_leads n c a = record {
  some = λ y h. let e = h.1 in cc;
  ahead = λ t y h. (h.0, (heads h.1).1, h.2);
  back = λ t y h. (h.0, ap (λ (z : ℕ). z ∷ t) a ∙ ap (λ (z : List ℕ). 187 ∷ z) h.1, h.2);
}

pub mark_second_stops : (n c : ℕ) → c ≢ 187 → Stops c (Completes pending.MarkSecond n)
mark_second_stops n c a = record { some = λ y h. let e = h.1 in cc; none = λ t y h. a (heads h.1).0 }

pub mark_third_leads : (n c : ℕ) → c ≡ 191 → Leads c (Completes pending.MarkThird n) (Completes pending.Value n)
mark_third_leads n c a = record {
  some = λ y h. let e = h.1 in cc;
  ahead = λ t y h. subst (λ (z : List ℕ). Element (128 - n) z y) (sym (heads h.1).1) h.2;
  back = λ t y h. (t, ap (λ (z : ℕ). z ∷ t) a, h);
}

pub mark_third_stops : (n c : ℕ) → c ≢ 191 → Stops c (Completes pending.MarkThird n)
mark_third_stops n c a = record { some = λ y h. let e = h.1 in cc; none = λ t y h. a (heads h.1).0 }

-- A string.
pub text_can : (token : TextToken) (n : ℕ) → CanEndText token → CanComplete (Completes (pending.Text token) n)
text_can token n h = (h.0, tree.Text h.1, (h.1, text_ends token (text_needs token) h.0 h.1 h.2, refl))

text_lives : (run : List ℕ) (old new : TextToken) (n : ℕ) → TakesRun run old new → CanComplete (Completes (pending.Text old) n) → CanComplete (Completes (pending.Text new) n)
text_lives run old new n k p = text_can new n (k.can_end (p.0, p.2.0, p.2.1.3))

pub text_some : (token : TextToken) (n : ℕ) (y : Json) → Completes (pending.Text token) n [] y → ⊥
text_some token n y (s, (d, t, e, h), is) = cc

text_over : (run : List ℕ) (old new : TextToken) (n : ℕ) → TakesRun run old new → LeadsOver run (Completes (pending.Text old) n) (Completes (pending.Text new) n)
text_over run old new n k = record {
  whole = λ b v y e h. k.whole b v h.0 e h.1.3;
  ahead = λ t y h. (h.0, text_ends new (text_needs new) t h.0 ((k.same t h.0).0 h.1.3), h.2);
  back = λ t y h. (h.0, text_ends old (text_needs old) (run ++ t) h.0 ((k.same t h.0).1 h.1.3), h.2);
}

pub text_run : (run : List ℕ) (old new : TextToken) (stack : List Container) → TakesRun run old new → Transition run (at (pending.Text old) stack) (at (pending.Text new) stack)
text_run run old new stack takes =
    let n = length stack in
    steps_over run (pending.Text old) (pending.Text new) stack (text_over run old new n takes) (text_lives run old new n takes)

text_ended-ahead : (old new : TextToken) (n c : ℕ) → EndsString c old new → (t : List ℕ) (y : Json) → Completes (pending.Text old) n (c ∷ t) y → (t ≡ []) × (y ≡ tree.Text (text_of new))
text_ended-ahead old new n c k t y (s, (d, u, e, h), is) = let q = (k t s).0 h in (q.0, is ∙ ap tree.Text q.1)

pub text_ended : (old new : TextToken) (n c : ℕ) → EndsString c old new → Ends c (Completes (pending.Text old) n) (tree.Text (text_of new))
text_ended old new n c k = record {
  some = text_some old n;
  ahead = text_ended-ahead old new n c k;
  back = (text_of new, (c, [], refl, (k [] (text_of new)).1 (refl, refl)), refl);
}

pub text_stops : (old new : TextToken) (n c : ℕ) → RejectsByte c old new → Stops c (Completes (pending.Text old) n)
text_stops old new n c k = record { some = text_some old n; none = λ t y h. k t h.0 h.1.3 }

-- A name.
pub name_some : (pairs : Pairs) (token : TextToken) (n : ℕ) (y : Json) → Completes (pending.Name pairs token) n [] y → ⊥
name_some pairs token n y (t, r, name, qs, (d, u, e', h), m, e, is) = let q : [] ≡ d ∷ (u ++ r) = e ∙ ap (λ (z : List ℕ). z ++ r) e' in cc

-- What remains of a string after the byte c, where t remains and other bytes follow.
rest_after : (token : TextToken) (c : ℕ) (u t r name : List ℕ) → EndsText token t name → c ∷ u ≡ t ++ r → (v : List ℕ) × TextRest token (c ∷ v) name × (u ≡ v ++ r)
rest_after token c u t r name (d, v, e', h) e =
    let q = heads (e ∙ ap (λ (z : List ℕ). z ++ r) e') in
    (v, subst (λ (z : List ℕ). TextRest token z name) (e' ∙ ap (λ (z : ℕ). z ∷ v) (sym q.0)) h, q.1)

name_over-whole : (pairs : Pairs) (run : List ℕ) (old new : TextToken) (n : ℕ) → TakesRun run old new → (b v : List ℕ) (y : Json) → run ≡ b ++ v → Completes (pending.Name pairs old) n b y → ⊥
name_over-whole pairs run old new n k b v y e (t, r, name, qs, h, m, split, is) = k.whole t (r ++ v) name (e ∙ ap (λ (z : List ℕ). z ++ v) split ∙ append_assoc t r v) h.3

name_over-ahead : (pairs : Pairs) (run : List ℕ) (old new : TextToken) (n : ℕ) → TakesRun run old new → (u : List ℕ) (y : Json) → Completes (pending.Name pairs old) n (run ++ u) y → Completes (pending.Name pairs new) n u y
name_over-ahead pairs run old new n k u y (t, r, name, qs, h, m, e, is) = ⊎_elim
    (λ (q : (w : List ℕ) × (t ≡ run ++ w) × (u ≡ w ++ r)).
    (q.0, r, name, qs, text_ends new (text_needs new) q.0 name ((k.same q.0 name).0 (subst (λ (z : List ℕ). TextRest old z name) q.1 h.3)), m, q.2, is))
    (λ (q : (v : List ℕ) × (run ≡ t ++ v)). absurd (k.whole t q.0 name q.1 h.3))
    (cut run u t r e)

name_over-back : (pairs : Pairs) (run : List ℕ) (old new : TextToken) (n : ℕ) → TakesRun run old new → (u : List ℕ) (y : Json) → Completes (pending.Name pairs new) n u y → Completes (pending.Name pairs old) n (run ++ u) y
name_over-back pairs run old new n k u y (t, r, name, qs, h, m, e, is) =
    (run ++ t, r, name, qs, text_ends old (text_needs old) (run ++ t) name ((k.same t name).1 h.3), m, ap (λ (z : List ℕ). run ++ z) e ∙ sym (append_assoc run t r), is)

name_over : (pairs : Pairs) (run : List ℕ) (old new : TextToken) (n : ℕ) → TakesRun run old new → LeadsOver run (Completes (pending.Name pairs old) n) (Completes (pending.Name pairs new) n)
name_over pairs run old new n k = record {
  whole = name_over-whole pairs run old new n k;
  ahead = name_over-ahead pairs run old new n k;
  back = name_over-back pairs run old new n k;
}

name_token : (pairs : Pairs) (token : TextToken) (n : ℕ) → CanComplete (Completes (pending.Name pairs token) n) → CanEndText token
name_token pairs token n (b, y, (t, r, name, qs, h, m, e, is)) = (t, name, h.3)

name_lives : (pairs : Pairs) (run : List ℕ) (old new : TextToken) (n : ℕ) → TakesRun run old new → CanComplete (Completes (pending.Name pairs old) n) → CanComplete (Completes (pending.Name pairs new) n)
name_lives pairs run old new n k p = name_can pairs new n (k.can_end (name_token pairs old n p))

pub name_run : (pairs : Pairs) (run : List ℕ) (old new : TextToken) (stack : List Container) → TakesRun run old new → Transition run (at (pending.Name pairs old) stack) (at (pending.Name pairs new) stack)
name_run pairs run old new stack takes =
    let n = length stack in
    steps_over run (pending.Name pairs old) (pending.Name pairs new) stack (name_over pairs run old new n takes) (name_lives pairs run old new n takes)

name_ended-ahead : (pairs : Pairs) (old new : TextToken) (n c : ℕ) → EndsString c old new → (u : List ℕ) (y : Json) → Completes (pending.Name pairs old) n (c ∷ u) y → Completes (pending.Colon pairs (text_of new)) n u y
name_ended-ahead pairs old new n c k u y (t, r, name, qs, h, m, e, is) =
    let q = rest_after old c u t r name h e in
    let w = (k q.0 name).0 q.1 in
    let same : r ≡ u = sym (q.2 ∙ ap (λ (z : List ℕ). z ++ r) w.0) in
    (qs, subst (λ (z : List ℕ). AfterName (127 - n) z (text_of new) qs) same (subst (λ (z : List ℕ). AfterName (127 - n) r z qs) w.1 m), is)

pub name_ended : (pairs : Pairs) (old new : TextToken) (n c : ℕ) → EndsString c old new → Leads c (Completes (pending.Name pairs old) n) (Completes (pending.Colon pairs (text_of new)) n)
name_ended pairs old new n c k = record {
  some = name_some pairs old n;
  ahead = name_ended-ahead pairs old new n c k;
  back = λ u y h. (c ∷ [], u, text_of new, h.0, (c, [], refl, (k [] (text_of new)).1 (refl, refl)), h.1, refl, h.2);
}

name_none : (pairs : Pairs) (old new : TextToken) (n c : ℕ) → RejectsByte c old new → (u : List ℕ) (y : Json) → Completes (pending.Name pairs old) n (c ∷ u) y → ⊥
name_none pairs old new n c k u y (t, r, name, qs, h, m, e, is) = let q = rest_after old c u t r name h e in k q.0 name q.1

pub name_stops : (pairs : Pairs) (old new : TextToken) (n c : ℕ) → RejectsByte c old new → Stops c (Completes (pending.Name pairs old) n)
name_stops pairs old new n c k = record { some = name_some pairs old n; none = name_none pairs old new n c k }

-- A number. It has no last byte of its own: what follows shows that it has ended.
number_leads-ahead : (old new : NumberToken) (c : ℕ) → IsNumberByte c → ((t : List ℕ) (m : Number) → NumberRest old (c ∷ t) m ↔ NumberRest new t m) → (stack : List Container) (r : List ℕ) (x : Json) → RestOfText (pending.Number old) stack (c ∷ r) x → RestOfText (pending.Number new) stack r x
number_leads-ahead old new c a k stack r x ([], s, y, h, e, puts) = absurd (puts-no_number c a stack y r x (subst (λ (z : List ℕ). AfterValue stack y z x) (sym e) puts))
number_leads-ahead old new c a k stack r x (d ∷ t, s, y, (m, h, is), e, puts) =
    let q = heads e in
    (t, s, y, (m, (k t m).0 (subst (λ (z : ℕ). NumberRest old (z ∷ t) m) (sym q.0) h), is), q.1, puts)

number_leads-back : (old new : NumberToken) (c : ℕ) → ((t : List ℕ) (m : Number) → NumberRest old (c ∷ t) m ↔ NumberRest new t m) → (stack : List Container) (r : List ℕ) (x : Json) → RestOfText (pending.Number new) stack r x → RestOfText (pending.Number old) stack (c ∷ r) x
number_leads-back old new c k stack r x (t, s, y, (m, h, is), e, puts) = (c ∷ t, s, y, (m, (k t m).1 h, is), ap (λ (z : List ℕ). c ∷ z) e, puts)

pub number_can : (token : NumberToken) (n : ℕ) → CanEndNumber token → CanComplete (Completes (pending.Number token) n)
number_can token n h = (h.0, tree.Number h.1, (h.1, h.2, refl))

pub number_leads : (old new : NumberToken) (c : ℕ) → IsNumberByte c → ((t : List ℕ) (m : Number) → NumberRest old (c ∷ t) m ↔ NumberRest new t m) → CanEndNumber new → (stack : List Container) → RestTransition c (pending.Number old) stack (pending.Number new) stack
number_leads old new c a k h stack = record {
  ahead = number_leads-ahead old new c a k stack;
  back = number_leads-back old new c k stack;
  live = then-end (Completes (pending.Number new) (length stack)) stack (number_can new (length stack) h);
}

pub number_ended-ahead : (token : NumberToken) (n : Number) (c : ℕ) → ((t : List ℕ) (m : Number) → NumberRest token (c ∷ t) m → ⊥) → ((m : Number) → NumberRest token [] m ↔ (m ≡ n)) → (stack : List Container) (r : List ℕ) (x : Json) → RestOfText (pending.Number token) stack (c ∷ r) x → AfterValue stack (tree.Number n) (c ∷ r) x
number_ended-ahead token n c k w stack r x ([], s, y, (m, h, is), e, puts) = subst (λ (z : Json). AfterValue stack z (c ∷ r) x) (is ∙ ap tree.Number ((w m).0 h)) (subst (λ (z : List ℕ). AfterValue stack y z x) (sym e) puts)
number_ended-ahead token n c k w stack r x (d ∷ t, s, y, (m, h, is), e, puts) = absurd (k t m (subst (λ (z : ℕ). NumberRest token (z ∷ t) m) (sym (heads e).0) h))

pub number_ended-back : (token : NumberToken) (n : Number) → ((m : Number) → NumberRest token [] m ↔ (m ≡ n)) → (stack : List Container) (r : List ℕ) (x : Json) → AfterValue stack (tree.Number n) r x → RestOfText (pending.Number token) stack r x
number_ended-back token n w stack r x puts = ([], r, tree.Number n, (n, (w n).1 refl, refl), refl, puts)

pub number_stops : (token : NumberToken) (n c : ℕ) → ((t : List ℕ) (m : Number) → NumberRest token (c ∷ t) m → ⊥) → ((m : Number) → NumberRest token [] m → ⊥) → Stops c (Completes (pending.Number token) n)
number_stops token n c k w = record { some = λ y h. w h.0 h.1; none = λ t y h. k t h.0 h.1 }

pub number_same : (c : ℕ) (new : State) (before token : NumberToken) (n : Number) (stack : List Container) → token ≡ before
    → ((t : List ℕ) (m : Number) → NumberRest before (c ∷ t) m → ⊥) → ((m : Number) → NumberRest token [] m ↔ (m ≡ n)) → PlacesValue (tree.Number n) stack new → Same c (at (pending.Number before) stack) new
number_same c new before token n stack same rejected whole h =
    let w = subst (λ (z : NumberToken). (m : Number) → NumberRest z [] m ↔ (m ≡ n)) same whole in
    same_at c (at (pending.Number before) stack) new (tree.Number n) stack
    (λ r x p. number_ended-ahead before n c rejected w stack r x p)
    (λ r x p. number_ended-back before n w stack (c ∷ r) x p)
    h

-- A literal name.
pub literal_some : (w : Literal) (read n : ℕ) (y : Json) → Completes (pending.Literal w read) n [] y → ⊥
literal_some w read n y (c, t, e, k, is) = cc

literal_leads-ahead : (w : Literal) (read n c d : ℕ) (v : List ℕ) → drop read (letters_of w) ≡ c ∷ drop (read + 1) (letters_of w) → drop (read + 1) (letters_of w) ≡ d ∷ v → (t : List ℕ) (y : Json) → Completes (pending.Literal w read) n (c ∷ t) y → Completes (pending.Literal w (read + 1)) n t y
literal_leads-ahead w read n c d v k l t y (c', t', e, b, is) = let q = heads (b ∙ k) in (d, v, q.1 ∙ l, q.1, is)

pub literal_leads : (w : Literal) (read n c d : ℕ) (v : List ℕ) → drop read (letters_of w) ≡ c ∷ drop (read + 1) (letters_of w) → drop (read + 1) (letters_of w) ≡ d ∷ v → Leads c (Completes (pending.Literal w read) n) (Completes (pending.Literal w (read + 1)) n)
literal_leads w read n c d v k l = record {
  some = literal_some w read n;
  ahead = literal_leads-ahead w read n c d v k l;
  back = λ t y h. (c, t, refl, ap (λ (z : List ℕ). c ∷ z) h.3 ∙ sym k, h.4);
}

pub literal_goes_can : (w : Literal) (read n d : ℕ) (v : List ℕ) → drop read (letters_of w) ≡ d ∷ v → CanComplete (Completes (pending.Literal w read) n)
literal_goes_can w read n d v l = (drop read (letters_of w), value_of w, (d, v, l, refl, refl))

literal_ended-ahead : (w : Literal) (read n c : ℕ) → drop read (letters_of w) ≡ c ∷ [] → (t : List ℕ) (y : Json) → Completes (pending.Literal w read) n (c ∷ t) y → (t ≡ []) × (y ≡ value_of w)
literal_ended-ahead w read n c k t y (c', t', e, b, is) = ((heads (b ∙ k)).1, is)

pub literal_ended : (w : Literal) (read n c : ℕ) → drop read (letters_of w) ≡ c ∷ [] → Ends c (Completes (pending.Literal w read) n) (value_of w)
literal_ended w read n c k = record {
  some = literal_some w read n;
  ahead = literal_ended-ahead w read n c k;
  back = (c, [], refl, sym k, refl);
}

-- A bracket that opens an array or an object, where fewer than 128 are open.
pub opens_array : (c : ℕ) (stack : List Container) → c ≡ 91 → length stack < 128 → Transition (c ∷ []) (at pending.Value stack) (at pending.Items stack)
opens_array c stack a few = steps_within c pending.Value pending.Items stack (value_array (length stack) c a few) (items_can (length stack))

pub opens_object : (c : ℕ) (stack : List Container) → c ≡ 123 → length stack < 128 → Transition (c ∷ []) (at pending.Value stack) (at pending.Members stack)
opens_object c stack a few = steps_within c pending.Value pending.Members stack (value_object (length stack) c a few) (members_can (length stack))
