-- How what remains to be read follows a byte, whatever is being read.
use Rattle.std.proofs.Common.{◌≡◌, ◌↔◌, ◌⊎◌, inl, inr, ⊎_elim, ℕ, Bool, true, false, IsTrue, List, [], ◌∷◌, ◌++◌, length, refl, sym, ◌∙◌, ap, subst, append_assoc, arith}
use Rattle.lot_json.specs.declared.tree.json.Json.{Json}
use Rattle.lot_json.specs.declared.tree.json.Json.TheVariants as tree
use Rattle.lot_json.specs.Pending.{Pending, State, at, lost}
use Rattle.lot_json.specs.Pending as pending
use Rattle.lot_json.specs.declared.machine.container.Container.{Container}
use Rattle.lot_json.specs.declared.machine.container.Container.TheVariants as container
use Rattle.lot_json.specs.Grammar.{AreWhiteSpace, more_items_space, more_items_close, more_items_next, more_members_space, more_members_close, more_members_next}
use Rattle.lot_json.specs.NumberRest.{IsNumberByte}
use Rattle.lot_json.proofs.Utf8.{heads}
use Rattle.lot_json.specs.Residual.{AfterValue, Completes, RestOfTextBy, RestOfText, Remaining, object_of, CanEnd, Transition, IsRejected, ReadsByte, PlacesValue}

-- The byte leads from what P completes to what Q does.
pub record Leads (c : ℕ) (P Q : List ℕ → Json → Type 0) : Type 0 where
  pub some : (y : Json) → P [] y → ⊥
  pub ahead : (t : List ℕ) (y : Json) → P (c ∷ t) y → Q t y
  pub back : (t : List ℕ) (y : Json) → Q t y → P (c ∷ t) y

-- The bytes of a run lead from what P completes to what Q does, and no prefix of theirs completes anything.
pub record LeadsOver (run : List ℕ) (P Q : List ℕ → Json → Type 0) : Type 0 where
  pub whole : (b v : List ℕ) (y : Json) → run ≡ b ++ v → P b y → ⊥
  pub ahead : (t : List ℕ) (y : Json) → P (run ++ t) y → Q t y
  pub back : (t : List ℕ) (y : Json) → Q t y → P (run ++ t) y

-- The byte completes the value v.
pub record Ends (c : ℕ) (P : List ℕ → Json → Type 0) (v : Json) : Type 0 where
  pub some : (y : Json) → P [] y → ⊥
  pub ahead : (t : List ℕ) (y : Json) → P (c ∷ t) y → (t ≡ []) × (y ≡ v)
  pub back : P (c ∷ []) v

-- Nothing continues with the byte.
pub record Stops (c : ℕ) (P : List ℕ → Json → Type 0) : Type 0 where
  pub some : (y : Json) → P [] y → ⊥
  pub none : (t : List ℕ) (y : Json) → P (c ∷ t) y → ⊥

-- Some bytes complete a value.
abbrev pub CanComplete : (List ℕ → Json → Type 0) → Type 0
CanComplete P = (b : List ℕ) × (y : Json) × P b y

pub leads-ahead : (c : ℕ) (P Q : List ℕ → Json → Type 0) → Leads c P Q → (stack : List Container) (r : List ℕ) (x : Json) → RestOfTextBy P stack (c ∷ r) x → RestOfTextBy Q stack r x
leads-ahead c P Q g stack r x ([], s, y, p, e, h) = absurd (g.some y p)
leads-ahead c P Q g stack r x (d ∷ t, s, y, p, e, h) = let k = heads e in (t, s, y, g.ahead t y (subst (λ (z : ℕ). P (z ∷ t) y) (sym k.0) p), k.1, h)

pub leads-back : (c : ℕ) (P Q : List ℕ → Json → Type 0) → Leads c P Q → (stack : List Container) (r : List ℕ) (x : Json) → RestOfTextBy Q stack r x → RestOfTextBy P stack (c ∷ r) x
leads-back c P Q g stack r x (t, s, y, q, e, h) = (c ∷ t, s, y, g.back t y q, ap (λ (z : List ℕ). c ∷ z) e, h)

-- Where the cut after a run lies, in a list that is cut elsewhere too.
pub cut : (run r b s : List ℕ) → run ++ r ≡ b ++ s → ((t : List ℕ) × (b ≡ run ++ t) × (r ≡ t ++ s)) ⊎ ((v : List ℕ) × (run ≡ b ++ v))
cut [] r b s e = inl (b, refl, e)
cut (c ∷ run) r [] s e = inr (c ∷ run, refl)
cut (c ∷ run) r (d ∷ b) s e = let h = heads e in ⊎_elim
    (λ (k : (t : List ℕ) × (b ≡ run ++ t) × (r ≡ t ++ s)). inl (k.0, ap (λ (z : ℕ). z ∷ b) (sym h.0) ∙ ap (λ (z : List ℕ). c ∷ z) k.1, k.2))
    (λ (k : (v : List ℕ) × (run ≡ b ++ v)). inr (k.0, ap (λ (z : List ℕ). c ∷ z) k.1 ∙ ap (λ (z : ℕ). z ∷ (b ++ k.0)) h.0))
    (cut run r b s h.1)

over-ahead : (run : List ℕ) (P Q : List ℕ → Json → Type 0) → LeadsOver run P Q → (stack : List Container) (r : List ℕ) (x : Json) → RestOfTextBy P stack (run ++ r) x → RestOfTextBy Q stack r x
over-ahead run P Q g stack r x (b, s, y, p, e, h) = ⊎_elim
    (λ (k : (t : List ℕ) × (b ≡ run ++ t) × (r ≡ t ++ s)). (k.0, s, y, g.ahead k.0 y (subst (λ (z : List ℕ). P z y) k.1 p), k.2, h))
    (λ (k : (v : List ℕ) × (run ≡ b ++ v)). absurd (g.whole b k.0 y k.1 p))
    (cut run r b s e)

over-back : (run : List ℕ) (P Q : List ℕ → Json → Type 0) → LeadsOver run P Q → (stack : List Container) (r : List ℕ) (x : Json) → RestOfTextBy Q stack r x → RestOfTextBy P stack (run ++ r) x
over-back run P Q g stack r x (t, s, y, q, e, h) = (run ++ t, s, y, g.back t y q, ap (λ (z : List ℕ). run ++ z) e ∙ sym (append_assoc run t s), h)

pub ends-ahead : (c : ℕ) (P : List ℕ → Json → Type 0) (v : Json) → Ends c P v → (stack : List Container) (r : List ℕ) (x : Json) → RestOfTextBy P stack (c ∷ r) x → AfterValue stack v r x
ends-ahead c P v g stack r x ([], s, y, p, e, h) = absurd (g.some y p)
ends-ahead c P v g stack r x (d ∷ t, s, y, p, e, h) =
    let k = heads e in
    let q = g.ahead t y (subst (λ (z : ℕ). P (z ∷ t) y) (sym k.0) p) in
    let same : s ≡ r = sym (k.1 ∙ ap (λ (z : List ℕ). z ++ s) q.0) in
    subst (λ (z : List ℕ). AfterValue stack v z x) same (subst (λ (z : Json). AfterValue stack z s x) q.1 h)

pub ends-back : (c : ℕ) (P : List ℕ → Json → Type 0) (v : Json) → Ends c P v → (stack : List Container) (r : List ℕ) (x : Json) → AfterValue stack v r x → RestOfTextBy P stack (c ∷ r) x
ends-back c P v g stack r x h = (c ∷ [], r, v, g.back, refl, h)

pub stops-none : (c : ℕ) (P : List ℕ → Json → Type 0) → Stops c P → (stack : List Container) (r : List ℕ) (x : Json) → RestOfTextBy P stack (c ∷ r) x → ⊥
stops-none c P g stack r x ([], s, y, p, e, h) = g.some y p
stops-none c P g stack r x (d ∷ t, s, y, p, e, h) = g.none t y (subst (λ (z : ℕ). P (z ∷ t) y) (sym (heads e).0) p)

-- After any value the text can end.
pub puts-end : (stack : List Container) (y : Json) → (r : List ℕ) × (x : Json) × AfterValue stack y r x
puts-end [] y = ([], y, (tt, refl))
puts-end (container.Array items ∷ below) y =
    let q = puts-end below (tree.Items ((items ++ y ∷ []) ++ [])) in
    (93 ∷ q.0, q.1, (93 ∷ [], q.0, [], more_items_close refl refl, refl, q.2))
puts-end (container.Object pairs name ∷ below) y =
    let q = puts-end below (object_of ((pairs ++ (name, y) ∷ []) ++ [])) in
    (125 ∷ q.0, q.1, (125 ∷ [], q.0, [], more_members_close refl refl, refl, q.2))

pub then-end : (P : List ℕ → Json → Type 0) (stack : List Container) → CanComplete P → (r : List ℕ) × (x : Json) × RestOfTextBy P stack r x
then-end P stack p = let q = puts-end stack p.1 in (p.0 ++ q.0, q.1, (p.0, q.0, p.1, p.2, refl, q.2))

-- No byte of a number follows a value.
pub puts-no_number : (c : ℕ) → IsNumberByte c → (stack : List Container) (y : Json) (r : List ℕ) (x : Json) → AfterValue stack y (c ∷ r) x → ⊥
puts-no_number c n [] y r x (space, e) = let s = space.0 in omega arith
puts-no_number c n (container.Array items ∷ below) y r x (b, s, ys, more_items_space d t sp m is, e, h) = let k = heads (e ∙ ap (λ (z : List ℕ). z ++ s) is) in let q = k.0 in omega arith
puts-no_number c n (container.Array items ∷ below) y r x (b, s, ys, more_items_close is name, e, h) = let k = heads (e ∙ ap (λ (z : List ℕ). z ++ s) is) in let q = k.0 in omega arith
puts-no_number c n (container.Array items ∷ below) y r x (b, s, ys, more_items_next f t z zs el m is name, e, h) = let k = heads (e ∙ ap (λ (z : List ℕ). z ++ s) is) in let q = k.0 in omega arith
puts-no_number c n (container.Object pairs name ∷ below) y r x (b, s, ys, more_members_space d t sp m is, e, h) = let k = heads (e ∙ ap (λ (z : List ℕ). z ++ s) is) in let q = k.0 in omega arith
puts-no_number c n (container.Object pairs name ∷ below) y r x (b, s, ys, more_members_close is name', e, h) = let k = heads (e ∙ ap (λ (z : List ℕ). z ++ s) is) in let q = k.0 in omega arith
puts-no_number c n (container.Object pairs name ∷ below) y r x (b, s, ys, more_members_next t m is, e, h) = let k = heads (e ∙ ap (λ (z : List ℕ). z ++ s) is) in let q = k.0 in omega arith

-- The byte leads from what is left of one reading to what is left of another.
pub record RestTransition (c : ℕ) (p : Pending) (stack : List Container) (q : Pending) (grown : List Container) : Type 0 where
  pub ahead : (r : List ℕ) (x : Json) → RestOfText p stack (c ∷ r) x → RestOfText q grown r x
  pub back : (r : List ℕ) (x : Json) → RestOfText q grown r x → RestOfText p stack (c ∷ r) x
  pub live : (r : List ℕ) × (x : Json) × RestOfText q grown r x

-- On bytes that begin with c the two states are one.
pub record Same (c : ℕ) (old new : State) : Type 0 where
  pub ahead : (r : List ℕ) (x : Json) → Remaining old (c ∷ r) x → Remaining new (c ∷ r) x
  pub back : (r : List ℕ) (x : Json) → Remaining new (c ∷ r) x → Remaining old (c ∷ r) x
  pub live : CanEnd new

pub steps_by : (c : ℕ) (p : Pending) (stack : List Container) (q : Pending) (grown : List Container) → RestTransition c p stack q grown → Transition (c ∷ []) (at p stack) (at q grown)
steps_by c p stack q grown h = record { ahead = h.ahead; back = h.back; live = λ _. h.live }

-- A byte that stays within the value that is being read.
pub steps_within : (c : ℕ) (p q : Pending) (stack : List Container) → Leads c (Completes p (length stack)) (Completes q (length stack)) → CanComplete (Completes q (length stack)) → Transition (c ∷ []) (at p stack) (at q stack)
steps_within c p q stack g can = record {
  ahead = leads-ahead c (Completes p (length stack)) (Completes q (length stack)) g stack;
  back = leads-back c (Completes p (length stack)) (Completes q (length stack)) g stack;
  live = λ _. then-end (Completes q (length stack)) stack can;
}

-- A run that stays within the value that is being read.
pub steps_over : (run : List ℕ) (p q : Pending) (stack : List Container) → LeadsOver run (Completes p (length stack)) (Completes q (length stack))
    → (CanComplete (Completes p (length stack)) → CanComplete (Completes q (length stack))) → Transition run (at p stack) (at q stack)
steps_over run p q stack g can = record {
  ahead = over-ahead run (Completes p (length stack)) (Completes q (length stack)) g stack;
  back = over-back run (Completes p (length stack)) (Completes q (length stack)) g stack;
  live = λ h. then-end (Completes q (length stack)) stack (can (h.2.0, h.2.2, h.2.3));
}

-- Nothing is read.
pub stays : (state : State) → Transition [] state state
stays state = record { ahead = λ r x h. h; back = λ r x h. h; live = λ h. h }

-- A byte that completes the value that is being read, which then is put where it belongs.
pub steps_placed : (c : ℕ) (p : Pending) (stack : List Container) (new : State) (v : Json) → Ends c (Completes p (length stack)) v → PlacesValue v stack new → Transition (c ∷ []) (at p stack) new
steps_placed c p stack new v g h =
    let q = puts-end stack v in
    record {
      ahead = λ r x k. h.ahead r x (ends-ahead c (Completes p (length stack)) v g stack r x k);
      back = λ r x k. ends-back c (Completes p (length stack)) v g stack r x (h.back r x k);
      live = λ _. (q.0, q.1, h.ahead q.0 q.1 q.2);
    }

pub rejected_by : (c : ℕ) (p : Pending) (stack : List Container) → Stops c (Completes p (length stack)) → IsRejected c (at p stack)
rejected_by c p stack g = record { none = stops-none c (Completes p (length stack)) g stack }

pub reads_same : (continues : Bool) (c : ℕ) (old mid new : State) → Same c old mid → ReadsByte continues c mid new → ReadsByte continues c old new
reads_same true c old mid new s h = record {
  ahead = λ r x p. h.ahead r x (s.ahead r x p);
  back = λ r x p. s.back r x (h.back r x p);
  live = λ _. h.live s.live;
}
reads_same false c old mid new s h = record { none = λ r x p. h.none r x (s.ahead r x p) }

-- The two states leave the same to read on bytes that begin with c.
pub same_by : (c : ℕ) (p : Pending) (stack : List Container) (q : Pending) (grown : List Container)
    → ((r : List ℕ) (x : Json) → RestOfText p stack (c ∷ r) x → RestOfText q grown (c ∷ r) x)
    → ((r : List ℕ) (x : Json) → RestOfText q grown (c ∷ r) x → RestOfText p stack (c ∷ r) x)
    → CanComplete (Completes q (length grown)) → Same c (at p stack) (at q grown)
same_by c p stack q grown ahead back can = record { ahead = ahead; back = back; live = then-end (Completes q (length grown)) grown can }

-- The old state leaves what remains to be read after a value that was placed.
pub same_at : (c : ℕ) (old new : State) (v : Json) (stack : List Container)
    → ((r : List ℕ) (x : Json) → Remaining old (c ∷ r) x → AfterValue stack v (c ∷ r) x)
    → ((r : List ℕ) (x : Json) → AfterValue stack v (c ∷ r) x → Remaining old (c ∷ r) x)
    → PlacesValue v stack new → Same c old new
same_at c old new v stack ahead back h =
    let q = puts-end stack v in
    record {
      ahead = λ r x p. h.ahead (c ∷ r) x (ahead r x p);
      back = λ r x p. back r x (h.back (c ∷ r) x p);
      live = (q.0, q.1, h.ahead q.0 q.1 q.2);
    }

-- Where no text leads, all that is said of what is left holds.
pub lost_steps : (bytes : List ℕ) → Transition bytes lost lost
lost_steps bytes = record { ahead = λ r x h. absurd h.3; back = λ r x h. absurd h.3; live = λ h. absurd h.2.3 }

pub lost_rejected : (c : ℕ) → IsRejected c lost
lost_rejected c = record { none = λ r x h. absurd h.3 }

-- What a test says.
pub yes_of : (b : Bool) (P : Type 0) → IsTrue b ↔ P → b ≡ true → P
yes_of b P h e = h.0 e

pub no_of : (b : Bool) (P : Type 0) → IsTrue b ↔ P → b ≡ false → P → ⊥
no_of b P h e p = let q = h.1 p in cc

-- A value was put where it belongs.
done_puts : (v : Json) (r : List ℕ) (x : Json) → RestOfText (pending.Done v) [] r x → AfterValue [] v r x
done_puts v r x (b, s, y, (n, bn, is), e, (spaces, same)) = (subst AreWhiteSpace (sym (e ∙ ap (λ (z : List ℕ). z ++ s) bn)) spaces, same ∙ is)

pub puts_root : (v : Json) → PlacesValue v [] (at (pending.Done v) [])
puts_root v = record { ahead = λ r x p. ([], r, v, (refl, refl, refl), refl, p); back = done_puts v }

puts_item-back : (v : Json) (items : List Json) (below : List Container) (r : List ℕ) (x : Json) → RestOfText (pending.AfterItem (items ++ v ∷ [])) below r x → AfterValue (container.Array items ∷ below) v r x
puts_item-back v items below r x (b, s, y, (ys, m, is), e, h) = (b, s, ys, m, e, subst (λ (z : Json). AfterValue below z s x) is h)

pub puts_item : (v : Json) (items : List Json) (below : List Container) → PlacesValue v (container.Array items ∷ below) (at (pending.AfterItem (items ++ v ∷ [])) below)
puts_item v items below = record {
  ahead = λ r x h. (h.0, h.1, tree.Items ((items ++ v ∷ []) ++ h.2), (h.2, h.3, refl), h.4, h.5);
  back = puts_item-back v items below;
}

puts_member-back : (v : Json) (pairs : List (List ℕ × Json)) (name : List ℕ) (below : List Container) (r : List ℕ) (x : Json)
    → RestOfText (pending.AfterMember (pairs ++ (name, v) ∷ [])) below r x → AfterValue (container.Object pairs name ∷ below) v r x
puts_member-back v pairs name below r x (b, s, y, (qs, m, is), e, h) = (b, s, qs, m, e, subst (λ (z : Json). AfterValue below z s x) is h)

pub puts_member : (v : Json) (pairs : List (List ℕ × Json)) (name : List ℕ) (below : List Container) → PlacesValue v (container.Object pairs name ∷ below) (at (pending.AfterMember (pairs ++ (name, v) ∷ [])) below)
puts_member v pairs name below = record {
  ahead = λ r x h. (h.0, h.1, object_of ((pairs ++ (name, v) ∷ []) ++ h.2), (h.2, h.3, refl), h.4, h.5);
  back = puts_member-back v pairs name below;
}
