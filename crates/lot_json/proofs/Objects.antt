-- Within an object: what a byte does.
use Rattle.std.proofs.Common.{◌≡◌, ◌↔◌, ℕ, ◌-◌, List, [], ◌∷◌, ◌++◌, length, refl, sym, ◌∙◌, ap, subst, append-nil, append_assoc, arith}
use Rattle.lot_json.specs.declared.tokens.text_token.TextToken.{TextToken}
use Rattle.lot_json.specs.declared.tree.json.Json.{Json}
use Rattle.lot_json.specs.declared.tree.json.Json.TheVariants as tree
use Rattle.lot_json.specs.declared.tree.json.JsonMembers.{JsonMembers, out-JsonMembers}
use Rattle.lot_json.specs.Pending.{at}
use Rattle.lot_json.specs.Pending as pending
use Rattle.lot_json.specs.declared.machine.container.Container.{Container}
use Rattle.lot_json.specs.declared.machine.container.Container.TheVariants as container
use Rattle.lot_json.specs.Characters.{Characters, close}
use Rattle.lot_json.specs.TextRest.{TextRest, CanEndText}
use Rattle.lot_json.specs.Grammar.{IsWhiteSpace, Element, Members, members_space, members_close, members_first, AfterQuote, after_quote_named, AfterName, after_name_space, after_name_colon, MoreMembers, more_members_space, more_members_close, more_members_next, NextMember, next_member_space, next_member_quote}
use Rattle.lot_json.specs.Residual.{AfterValue, Completes, RestOfText, EndsText, object_of}
use Rattle.lot_json.proofs.NeedsMore.{text_needs}
use Rattle.lot_json.proofs.Utf8.{heads}
use Rattle.lot_json.proofs.Residual.{Leads, Ends, CanComplete, RestTransition, then-end, Same, same_by}
use Rattle.lot_json.proofs.Begins.{text_first}
use Rattle.lot_json.proofs.Values.{element_can}
use Rattle.lot_json.proofs.Arrays.{one_deeper}

abbrev pub Pairs : Type 0
Pairs = List (List ℕ × Json)

-- After a member.
pub after_member_can : (pairs : Pairs) (n : ℕ) → CanComplete (Completes (pending.AfterMember pairs) n)
after_member_can pairs n = (125 ∷ [], object_of (pairs ++ []), ([], more_members_close refl refl, refl))

pub after_member_some : (pairs : Pairs) (n : ℕ) (y : Json) → Completes (pending.AfterMember pairs) n [] y → ⊥
after_member_some pairs n y (qs, more_members_space c r sp h e, is) = cc
after_member_some pairs n y (qs, more_members_close e name, is) = cc
after_member_some pairs n y (qs, more_members_next r h e, is) = cc

after_member_space-ahead : (pairs : Pairs) (n c : ℕ) → IsWhiteSpace c → (t : List ℕ) (y : Json) → Completes (pending.AfterMember pairs) n (c ∷ t) y → Completes (pending.AfterMember pairs) n t y
after_member_space-ahead pairs n c sp t y (qs, more_members_space d r s h e, is) = (qs, subst (λ (z : List ℕ). MoreMembers (127 - n) z qs) (sym (heads e).1) h, is)
after_member_space-ahead pairs n c sp t y (qs, more_members_close e name, is) = let q = (heads e).0 in absurd (omega arith)
after_member_space-ahead pairs n c sp t y (qs, more_members_next r h e, is) = let q = (heads e).0 in absurd (omega arith)

pub after_member_spaced : (pairs : Pairs) (n c : ℕ) → IsWhiteSpace c → Leads c (Completes (pending.AfterMember pairs) n) (Completes (pending.AfterMember pairs) n)
after_member_spaced pairs n c sp = record {
  some = after_member_some pairs n;
  ahead = after_member_space-ahead pairs n c sp;
  back = λ t y h. (h.0, more_members_space c t sp h.1 refl, h.2);
}

after_member_close-ahead : (pairs : Pairs) (n c : ℕ) → c ≡ 125 → (t : List ℕ) (y : Json) → Completes (pending.AfterMember pairs) n (c ∷ t) y → (t ≡ []) × (y ≡ object_of pairs)
after_member_close-ahead pairs n c a t y (qs, more_members_space d r s h e, is) = let q = (heads e).0 in absurd (omega arith)
after_member_close-ahead pairs n c a t y (qs, more_members_close e name, is) = ((heads e).1, is ∙ ap (λ (z : Pairs). object_of (pairs ++ z)) name ∙ ap object_of (append-nil pairs))
after_member_close-ahead pairs n c a t y (qs, more_members_next r h e, is) = let q = (heads e).0 in absurd (omega arith)

pub after_member_closed : (pairs : Pairs) (n c : ℕ) → c ≡ 125 → Ends c (Completes (pending.AfterMember pairs) n) (object_of pairs)
after_member_closed pairs n c a = record {
  some = after_member_some pairs n;
  ahead = after_member_close-ahead pairs n c a;
  back = ([], more_members_close (ap (λ (z : ℕ). z ∷ []) a) refl, ap object_of (sym (append-nil pairs)));
}

after_member_comma-ahead : (pairs : Pairs) (n c : ℕ) → c ≡ 44 → (t : List ℕ) (y : Json) → Completes (pending.AfterMember pairs) n (c ∷ t) y → Completes (pending.NextMember pairs) n t y
after_member_comma-ahead pairs n c a t y (qs, more_members_space d r s h e, is) = let q = (heads e).0 in absurd (omega arith)
after_member_comma-ahead pairs n c a t y (qs, more_members_close e name, is) = let q = (heads e).0 in absurd (omega arith)
after_member_comma-ahead pairs n c a t y (qs, more_members_next r h e, is) = (qs, subst (λ (z : List ℕ). NextMember (127 - n) z qs) (sym (heads e).1) h, is)

pub after_member_comma : (pairs : Pairs) (n c : ℕ) → c ≡ 44 → Leads c (Completes (pending.AfterMember pairs) n) (Completes (pending.NextMember pairs) n)
after_member_comma pairs n c a = record {
  some = after_member_some pairs n;
  ahead = after_member_comma-ahead pairs n c a;
  back = λ t y h. (h.0, more_members_next t h.1 (ap (λ (z : ℕ). z ∷ t) a), h.2);
}

-- After a name.
pub colon_can : (pairs : Pairs) (name : List ℕ) (n : ℕ) → CanComplete (Completes (pending.Colon pairs name) n)
colon_can pairs name n =
    let q = element_can (127 - n) in
    (58 ∷ (q.0 ++ 125 ∷ []), object_of (pairs ++ (name, q.1) ∷ []), ((name, q.1) ∷ [], after_name_colon q.0 (125 ∷ []) q.1 [] q.2 (more_members_close refl refl) refl refl, refl))

pub colon_some : (pairs : Pairs) (name : List ℕ) (n : ℕ) (y : Json) → Completes (pending.Colon pairs name) n [] y → ⊥
colon_some pairs name n y (qs, after_name_space c r sp h e, is) = cc
colon_some pairs name n y (qs, after_name_colon f r z zs v h e k, is) = cc

colon_space-ahead : (pairs : Pairs) (name : List ℕ) (n c : ℕ) → IsWhiteSpace c → (t : List ℕ) (y : Json) → Completes (pending.Colon pairs name) n (c ∷ t) y → Completes (pending.Colon pairs name) n t y
colon_space-ahead pairs name n c sp t y (qs, after_name_space d r s h e, is) = (qs, subst (λ (z : List ℕ). AfterName (127 - n) z name qs) (sym (heads e).1) h, is)
colon_space-ahead pairs name n c sp t y (qs, after_name_colon f r z zs v h e k, is) = let q = (heads e).0 in absurd (omega arith)

pub colon_spaced : (pairs : Pairs) (name : List ℕ) (n c : ℕ) → IsWhiteSpace c → Leads c (Completes (pending.Colon pairs name) n) (Completes (pending.Colon pairs name) n)
colon_spaced pairs name n c sp = record {
  some = colon_some pairs name n;
  ahead = colon_space-ahead pairs name n c sp;
  back = λ t y h. (h.0, after_name_space c t sp h.1 refl, h.2);
}

colon_value-ahead : (pairs : Pairs) (name : List ℕ) (c : ℕ) → c ≡ 58 → (stack : List Container) (r : List ℕ) (x : Json) → RestOfText (pending.Colon pairs name) stack (c ∷ r) x → RestOfText pending.Value (container.Object pairs name ∷ stack) r x
colon_value-ahead pairs name c a stack r x (b, s, y, (qs, after_name_space d t p h e', is), e, puts) = let q = (heads (e ∙ ap (λ (z : List ℕ). z ++ s) e')).0 in absurd (omega arith)
colon_value-ahead pairs name c a stack r x (b, s, y, (qs, after_name_colon f t z zs v h e' k, is), e, puts) = (
  f,
  t ++ s,
  z,
  subst (λ (m : ℕ). Element m f z) (one_deeper stack (container.Object pairs name)) v,
  (heads (e ∙ ap (λ (w : List ℕ). w ++ s) e')).1 ∙ append_assoc f t s,
  (t, s, zs, h, refl, subst (λ (w : Json). AfterValue stack w s x) (is ∙ ap (λ (w : Pairs). object_of (pairs ++ w)) k ∙ ap object_of (sym (append_assoc pairs ((name, z) ∷ []) zs))) puts),
)

colon_value-back : (pairs : Pairs) (name : List ℕ) (c : ℕ) → c ≡ 58 → (stack : List Container) (r : List ℕ) (x : Json) → RestOfText pending.Value (container.Object pairs name ∷ stack) r x → RestOfText (pending.Colon pairs name) stack (c ∷ r) x
colon_value-back pairs name c a stack r x (f, s, y, h, e, (b, s', qs, m, e', puts)) =
    let k = subst (λ (n : ℕ). Element n f y) (sym (one_deeper stack (container.Object pairs name))) h in (
      58 ∷ (f ++ b),
      s',
      object_of (pairs ++ ((name, y) ∷ qs)),
      ((name, y) ∷ qs, after_name_colon f b y qs k m refl refl, refl),
      ap (λ (z : ℕ). z ∷ r) a ∙ ap (λ (z : List ℕ). 58 ∷ z) (e ∙ ap (λ (z : List ℕ). f ++ z) e' ∙ sym (append_assoc f b s')),
      subst (λ (w : Json). AfterValue stack w s' x) (ap object_of (append_assoc pairs ((name, y) ∷ []) qs)) puts,
    )

pub colon_value : (pairs : Pairs) (name : List ℕ) (c : ℕ) → c ≡ 58 → (stack : List Container) → RestTransition c (pending.Colon pairs name) stack pending.Value (container.Object pairs name ∷ stack)
colon_value pairs name c a stack = record {
  ahead = colon_value-ahead pairs name c a stack;
  back = colon_value-back pairs name c a stack;
  live = then-end (Completes pending.Value (length (container.Object pairs name ∷ stack))) (container.Object pairs name ∷ stack) (element_can (128 - length (container.Object pairs name ∷ stack)));
}

-- The quotation mark that opens a name.
quote-ahead : (pairs : Pairs) (token : TextToken) (n : ℕ) → ((t s : List ℕ) → Characters t s ↔ TextRest token t s) → (t name : List ℕ) (y : Json) (qs : Pairs) → AfterQuote (127 - n) t name qs → y ≡ object_of (pairs ++ qs) → Completes (pending.Name pairs token) n t y
quote-ahead pairs token n k t name y qs (after_quote_named f r h m e) is = let q = text_first f name h in (f, r, name, qs, (q.0, q.1, q.2, (k f name).0 h), m, e, is)

quote-back : (pairs : Pairs) (token : TextToken) (n : ℕ) → ((t s : List ℕ) → Characters t s ↔ TextRest token t s) → (t : List ℕ) (y : Json) → Completes (pending.Name pairs token) n t y → (name : List ℕ) × (qs : Pairs) × AfterQuote (127 - n) t name qs × (y ≡ object_of (pairs ++ qs))
quote-back pairs token n k t y (f, r, name, qs, h, m, e, is) = (name, qs, after_quote_named f r ((k f name).1 h.3) m e, is)

name_end : (name : List ℕ) (n : ℕ) → (r : List ℕ) × (qs : Pairs) × AfterName (127 - n) r name qs
name_end name n = let q = element_can (127 - n) in (58 ∷ (q.0 ++ 125 ∷ []), (name, q.1) ∷ [], after_name_colon q.0 (125 ∷ []) q.1 [] q.2 (more_members_close refl refl) refl refl)

pub text_ends : (token : TextToken) → ((s : List ℕ) → TextRest token [] s → ⊥) → (t s : List ℕ) → TextRest token t s → EndsText token t s
text_ends token k [] s h = absurd (k s h)
text_ends token k (c ∷ t) s h = (c, t, refl, h)

pub name_can : (pairs : Pairs) (token : TextToken) (n : ℕ) → CanEndText token → CanComplete (Completes (pending.Name pairs token) n)
name_can pairs token n h = let q = name_end h.1 n in (h.0 ++ q.0, object_of (pairs ++ q.1), (h.0, q.0, h.1, q.1, text_ends token (text_needs token) h.0 h.1 h.2, q.2, refl, refl))

-- After a ','.
pub next_member_can : (pairs : Pairs) (n : ℕ) → CanComplete (Completes (pending.NextMember pairs) n)
next_member_can pairs n =
    let q = name_end [] n in
    (34 ∷ (34 ∷ q.0), object_of (pairs ++ q.1), (q.1, next_member_quote [] (34 ∷ q.0) (after_quote_named (34 ∷ []) q.0 (close refl refl) q.2 refl) refl, refl))

pub next_member_some : (pairs : Pairs) (n : ℕ) (y : Json) → Completes (pending.NextMember pairs) n [] y → ⊥
next_member_some pairs n y (qs, next_member_space c r sp h e, is) = cc
next_member_some pairs n y (qs, next_member_quote name r h e, is) = cc

next_member_space-ahead : (pairs : Pairs) (n c : ℕ) → IsWhiteSpace c → (t : List ℕ) (y : Json) → Completes (pending.NextMember pairs) n (c ∷ t) y → Completes (pending.NextMember pairs) n t y
next_member_space-ahead pairs n c sp t y (qs, next_member_space d r s h e, is) = (qs, subst (λ (z : List ℕ). NextMember (127 - n) z qs) (sym (heads e).1) h, is)
next_member_space-ahead pairs n c sp t y (qs, next_member_quote name r h e, is) = let q = (heads e).0 in absurd (omega arith)

pub next_member_spaced : (pairs : Pairs) (n c : ℕ) → IsWhiteSpace c → Leads c (Completes (pending.NextMember pairs) n) (Completes (pending.NextMember pairs) n)
next_member_spaced pairs n c sp = record {
  some = next_member_some pairs n;
  ahead = next_member_space-ahead pairs n c sp;
  back = λ t y h. (h.0, next_member_space c t sp h.1 refl, h.2);
}

next_member_name-ahead : (pairs : Pairs) (token : TextToken) (n c : ℕ) → c ≡ 34 → ((t s : List ℕ) → Characters t s ↔ TextRest token t s) → (t : List ℕ) (y : Json) → Completes (pending.NextMember pairs) n (c ∷ t) y → Completes (pending.Name pairs token) n t y
next_member_name-ahead pairs token n c a k t y (qs, next_member_space d r s h e, is) = let q = (heads e).0 in absurd (omega arith)
next_member_name-ahead pairs token n c a k t y (qs, next_member_quote name r h e, is) = quote-ahead pairs token n k t name y qs (subst (λ (z : List ℕ). AfterQuote (127 - n) z name qs) (sym (heads e).1) h) is

pub next_member_name : (pairs : Pairs) (token : TextToken) (n c : ℕ) → c ≡ 34 → ((t s : List ℕ) → Characters t s ↔ TextRest token t s) → Leads c (Completes (pending.NextMember pairs) n) (Completes (pending.Name pairs token) n)
next_member_name pairs token n c a k = record {
  some = next_member_some pairs n;
  ahead = next_member_name-ahead pairs token n c a k;
  back = λ t y h. let q = quote-back pairs token n k t y h in (q.1, next_member_quote q.0 t q.2 (ap (λ (z : ℕ). z ∷ t) a), q.3);
}

-- After the '{'.
pub members_some : (n : ℕ) (y : Json) → Completes pending.Members n [] y → ⊥
members_some n y (qs, members_space c r sp h e, is) = cc
members_some n y (qs, members_close e name, is) = cc
members_some n y (qs, members_first name r h e, is) = cc

members_space-ahead : (n c : ℕ) → IsWhiteSpace c → (t : List ℕ) (y : Json) → Completes pending.Members n (c ∷ t) y → Completes pending.Members n t y
members_space-ahead n c sp t y (qs, members_space d r s h e, is) = (qs, subst (λ (z : List ℕ). Members (127 - n) z qs) (sym (heads e).1) h, is)
members_space-ahead n c sp t y (qs, members_close e name, is) = let q = (heads e).0 in absurd (omega arith)
members_space-ahead n c sp t y (qs, members_first name r h e, is) = let q = (heads e).0 in absurd (omega arith)

pub members_spaced : (n c : ℕ) → IsWhiteSpace c → Leads c (Completes pending.Members n) (Completes pending.Members n)
members_spaced n c sp = record {
  some = members_some n;
  ahead = members_space-ahead n c sp;
  back = λ t y h. (h.0, members_space c t sp h.1 refl, h.2);
}

members_close-ahead : (n c : ℕ) → c ≡ 125 → (t : List ℕ) (y : Json) → Completes pending.Members n (c ∷ t) y → (t ≡ []) × (y ≡ object_of [])
members_close-ahead n c a t y (qs, members_space d r s h e, is) = let q = (heads e).0 in absurd (omega arith)
members_close-ahead n c a t y (qs, members_close e name, is) = ((heads e).1, is ∙ ap object_of name)
members_close-ahead n c a t y (qs, members_first name r h e, is) = let q = (heads e).0 in absurd (omega arith)

pub members_closed : (n c : ℕ) → c ≡ 125 → Ends c (Completes pending.Members n) (object_of [])
members_closed n c a = record {
  some = members_some n;
  ahead = members_close-ahead n c a;
  back = ([], members_close (ap (λ (z : ℕ). z ∷ []) a) refl, refl);
}

-- A name comes after the '{' as it comes after a ',' of an object without members.
members_next-ahead : (n c : ℕ) → c ≡ 34 → (t : List ℕ) (y : Json) → Completes pending.Members n (c ∷ t) y → Completes (pending.NextMember []) n (c ∷ t) y
members_next-ahead n c a t y (qs, members_space d r s h e, is) = let q = (heads e).0 in absurd (omega arith)
members_next-ahead n c a t y (qs, members_close e name, is) = let q = (heads e).0 in absurd (omega arith)
members_next-ahead n c a t y (qs, members_first name r h e, is) = (qs, next_member_quote name r h e, is)

members_next-back : (n c : ℕ) → c ≡ 34 → (t : List ℕ) (y : Json) → Completes (pending.NextMember []) n (c ∷ t) y → Completes pending.Members n (c ∷ t) y
members_next-back n c a t y (qs, next_member_space d r s h e, is) = let q = (heads e).0 in absurd (omega arith)
members_next-back n c a t y (qs, next_member_quote name r h e, is) = (qs, members_first name r h e, is)

members_next_rest-ahead : (c : ℕ) → c ≡ 34 → (stack : List Container) (r : List ℕ) (x : Json) → RestOfText pending.Members stack (c ∷ r) x → RestOfText (pending.NextMember []) stack (c ∷ r) x
members_next_rest-ahead c a stack r x ([], s, y, p, e, h) = absurd (members_some (length stack) y p)
members_next_rest-ahead c a stack r x (d ∷ t, s, y, p, e, h) = (d ∷ t, s, y, members_next-ahead (length stack) d (sym (heads e).0 ∙ a) t y p, e, h)

members_next_rest-back : (c : ℕ) → c ≡ 34 → (stack : List Container) (r : List ℕ) (x : Json) → RestOfText (pending.NextMember []) stack (c ∷ r) x → RestOfText pending.Members stack (c ∷ r) x
members_next_rest-back c a stack r x ([], s, y, p, e, h) = absurd (next_member_some [] (length stack) y p)
members_next_rest-back c a stack r x (d ∷ t, s, y, p, e, h) = (d ∷ t, s, y, members_next-back (length stack) d (sym (heads e).0 ∙ a) t y p, e, h)

pub members_next : (c : ℕ) (stack : List Container) → c ≡ 34 → Same c (at pending.Members stack) (at (pending.NextMember []) stack)
members_next c stack a = same_by c pending.Members stack (pending.NextMember []) stack (members_next_rest-ahead c a stack) (members_next_rest-back c a stack) (next_member_can [] (length stack))

-- The tree of these members.
pub object_is : (members : JsonMembers) (pairs : Pairs) → (out-JsonMembers members).pairs ≡ pairs → tree.Members members ≡ object_of pairs
object_is members pairs e = ap object_of e
