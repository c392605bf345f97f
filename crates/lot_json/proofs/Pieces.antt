-- What follows for the bytes that were read from what each of them does.
use Rattle.std.proofs.Common.{◌≡◌, ◌↔◌, ◌⊎◌, ℕ, ◌+◌, ◌-◌, ◌^◌, ◌<◌, ◌≤◌, min, Option, Some, List, [], ◌∷◌, ◌++◌, length, take, take-append-drop, drop, refl, sym, ◌∙◌, ap, subst, inl, inr, append-nil, append_assoc, length-append, arith}
use Rattle.std.proofs.lemmas.List.{take-append-le, take-take, length-take, length-take-le}
use Rattle.std.proofs.Math.Seq.{take-add, take-append-add, take-length}
use Rattle.std.proofs.lemmas.Bool.{cases_lt}
use Rattle.lot_json.specs.declared.tree.json.Json.{Json}
use Rattle.lot_json.specs.declared.tree.json.Json.TheVariants as tree
use Rattle.lot_json.specs.declared.machine.machine.Machine.{Machine}
use Rattle.lot_json.specs.declared.refusal.JsonRefusal.{JsonRefusal}
use Rattle.lot_json.specs.declared.refusal.JsonRefusal.TheVariants as refusal
use Rattle.lot_json.specs.Grammar.{JsonText, element_value, null_value}
use Rattle.lot_json.specs.Viable.{IsViable, IsViableLength}
use Rattle.lot_json.specs.Refusal.{IsOnlyTree, IsNotViable, IsRefused, IsNoJsonText, IsNoText}
use Rattle.lot_json.specs.Pending.{State, state_of}
use Rattle.lot_json.specs.Residual.{Remaining, Transition, ContinuesTo, RejectsAt}
use Rattle.lot_json.specs.Fed.{Reads, HasTaken}

pub prefix_viable : (b c : List ℕ) → IsViable (b ++ c) → IsViable b
prefix_viable b c (r, (x, t)) = (c ++ r, (x, subst (λ (z : List ℕ). JsonText z x) (append_assoc b c r) t))

pub text_viable : (b : List ℕ) (x : Json) → JsonText b x → IsViable b
text_viable b x t = ([], (x, subst (λ (z : List ℕ). JsonText z x) (sym (append-nil b)) t))

-- A machine that has read nothing.
pub reads_nothing : (machine : Machine) → ((r : List ℕ) (x : Json) → JsonText r x ↔ Remaining (state_of machine) r x) → Reads machine 0 []
reads_nothing machine k = record {
  counted = refl;
  ahead = λ r x t. (k r x).0 t;
  back = λ r x h. (k r x).1 h;
  live = (110 ∷ 117 ∷ 108 ∷ 108 ∷ [], tree.Null, (k (110 ∷ 117 ∷ 108 ∷ 108 ∷ []) tree.Null).0 (inl (record { element = 110 ∷ 117 ∷ 108 ∷ 108 ∷ []; spaces = []; is_element = element_value (null_value refl refl); are_spaces = tt; spelled = refl })));
}

-- Some bytes more.
pub must_continue : (old new : Machine) (n k : ℕ) (b bytes : List ℕ) → Reads old n b → Transition bytes (state_of old) (state_of new) → k ≡ min (n + length bytes) (2 ^ 64 - 1) → Reads new k (b ++ bytes)
must_continue old new n k b bytes h step e = record {
  counted = e ∙ (let q = h.counted in let l = length-append b bytes in omega arith);
  ahead = λ r x t. step.ahead r x (h.ahead (bytes ++ r) x (subst (λ (z : List ℕ). JsonText z x) (append_assoc b bytes r) t));
  back = λ r x p. subst (λ (z : List ℕ). JsonText z x) (sym (append_assoc b bytes r)) (h.back (bytes ++ r) x (step.back r x p));
  live = step.live h.live;
}

pub is_viable : (machine : Machine) (n : ℕ) (b : List ℕ) → Reads machine n b → IsViable b
is_viable machine n b h = (h.live.0, (h.live.1, h.back h.live.0 h.live.1 h.live.2))

not_viable : (machine : Machine) (n k : ℕ) (b rest : List ℕ) → Reads machine n b → RejectsAt k rest (state_of machine) → IsViable (b ++ rest) → ⊥
not_viable machine n k b rest h rejected v =
    let split : rest ++ v.0 ≡ take (k + 1) rest ++ (drop (k + 1) rest ++ v.0) = ap (λ (z : List ℕ). z ++ v.0) (sym (take-append-drop (k + 1) rest)) ∙ append_assoc (take (k + 1) rest) (drop (k + 1) rest) v.0 in
    rejected.dead (drop (k + 1) rest ++ v.0) v.1.0
    (subst (λ (z : List ℕ). Remaining (state_of machine) z v.1.0) split (h.ahead (rest ++ v.0) v.1.0 (subst (λ (z : List ℕ). JsonText z v.1.0) (append_assoc b rest v.0) v.1.1)))

-- A prefix that is longer than b.
longer_prefix : (b s : List ℕ) (j : ℕ) → length b < j → take j (b ++ s) ≡ b ++ take (j - length b) s
longer_prefix b s j k = let e : j ≡ length b + (j - length b) = omega arith in ap (λ (z : ℕ). take z (b ++ s)) e ∙ take-append-add b s (j - length b)

-- What breaks in some bytes breaks in a longer prefix of theirs too.
still_breaks : (n k : ℕ) (bytes : List ℕ) (old : State) → k < n → RejectsAt k bytes old → RejectsAt k (take n bytes) old
still_breaks n k bytes old l h =
    let t : take (k + 1) (take n bytes) ≡ take (k + 1) bytes = take-take (k + 1) n bytes (omega (arith, l)) in
    let u : take k (take n bytes) ≡ take k bytes = take-take k n bytes (omega (arith, l)) in
    record {
      within = let q = length-take n bytes in omega (arith, q, l, h.within);
      live = λ can. let q = h.live can in (q.0, q.1, subst (λ (z : List ℕ). Remaining old (z ++ q.0) q.1) (sym u) q.2);
      dead = λ r x p. h.dead r x (subst (λ (z : List ℕ). Remaining old (z ++ r) x) t p);
    }

-- The machine rejects the byte after the first k.
pub is_refused : (machine : Machine) (n m k : ℕ) (b rest : List ℕ) → Reads machine n b → RejectsAt k rest (state_of machine) → m ≡ min (n + k) (2 ^ 64 - 1) → IsNotViable (b ++ rest) m
is_refused machine n m k b rest h rejected e = record {
  dead = not_viable machine n k b rest h rejected;
  far = (
    length b + k,
    record {
      within = let l = length-append b rest in omega (arith, l, rejected.within);
      viable =
          let q = rejected.live h.live in
          subst (λ (z : List ℕ). IsViable z) (sym (take-append-add b rest k)) (q.0, (q.1, subst (λ (z : List ℕ). JsonText z q.1) (sym (append_assoc b (take k rest) q.0)) (h.back (take k rest ++ q.0) q.1 q.2)));
      longest = λ j l m v.
          not_viable machine n k b (take (j - length b) rest) h (still_breaks (j - length b) k rest (state_of machine) (omega (arith, l)) rejected)
          (subst (λ (z : List ℕ). IsViable z) (longer_prefix b rest j (omega (arith, l))) v);
    },
    e ∙ (let q = h.counted in omega (arith, q)),
  );
}

longest_of : (b more : List ℕ) (k : ℕ) → (IsViable b → ⊥) → IsViableLength b k → (j : ℕ) → k < j → j ≤ length (b ++ more) → (length b < j) ⊎ (j ≤ length b) → IsViable (take j (b ++ more)) → ⊥
longest_of b more k dead far j l m (inr s) v = far.longest j l s (subst (λ (z : List ℕ). IsViable z) (take-append-le j b more s) v)
longest_of b more k dead far j l m (inl s) v = dead (prefix_viable b (take (j - length b) more) (subst (λ (z : List ℕ). IsViable z) (longer_prefix b more j s) v))

-- More bytes change nothing.
dead_more : (b more : List ℕ) (k : ℕ) → IsNotViable b k → IsNotViable (b ++ more) k
dead_more b more k h = record {
  dead = λ v. h.dead (prefix_viable b more v);
  far = (
    h.far.0,
    record {
      within = let l = length-append b more in let w = h.far.1.within in omega arith;
      viable = subst (λ (z : List ℕ). IsViable z) (sym (take-append-le h.far.0 b more h.far.1.within)) h.far.1.viable;
      longest = λ j l m v. longest_of b more h.far.0 h.dead h.far.1 j l m (cases_lt (length b) j) v;
    },
    h.far.2,
  );
}

pub refused_more : (e : JsonRefusal) (b more : List ℕ) → IsRefused e b → IsRefused e (b ++ more)
refused_more (refusal.Syntax k) b more h = dead_more b more k h
refused_more refusal.Memory b more h = tt

pub refused_text : (e : JsonRefusal) (b : List ℕ) → IsRefused e b → IsNoText e b
refused_text (refusal.Syntax k) b h = record { none = λ t. h.dead (text_viable b t.0 t.1); far = h.far }
refused_text refusal.Memory b h = tt

-- The bytes end where the machine cannot.
pub is_no_json_text : (machine : Machine) (n : ℕ) (b : List ℕ) → Reads machine n b → ((x : Json) → Remaining (state_of machine) [] x → ⊥) → IsNoJsonText b n
is_no_json_text machine n b h k = record {
  none = λ t. k t.0 (h.ahead [] t.0 (subst (λ (z : List ℕ). JsonText z t.0) (sym (append-nil b)) t.1));
  far = (
    length b,
    record {
      within = omega arith;
      viable = subst (λ (z : List ℕ). IsViable z) (sym (take-length b)) (is_viable machine n b h);
      longest = λ j l m v. absurd (omega arith);
    },
    h.counted,
  );
}

pub is_only : (machine : Machine) (n : ℕ) (b : List ℕ) (x : Json) → Reads machine n b → ((y : Json) → Remaining (state_of machine) [] y ↔ (y ≡ x)) → IsOnlyTree b x
is_only machine n b x h k = record {
  text = subst (λ (z : List ℕ). JsonText z x) (append-nil b) (h.back [] x ((k x).1 refl));
  only = λ y t. (k y).0 (h.ahead [] y (subst (λ (z : List ℕ). JsonText z y) (sym (append-nil b)) t));
}

-- A prefix of a piece.
pub continues_to : (old new : Machine) (n m k : ℕ) (piece : List ℕ) → ContinuesTo k piece (state_of old) (state_of new) → m ≡ min (n + k) (2 ^ 64 - 1) → (b : List ℕ) → Reads old n b → Reads new m (b ++ take k piece)
continues_to old new n m k piece g e b h = must_continue old new n m b (take k piece) h g.steps (e ∙ ap (λ (z : ℕ). min (n + z) (2 ^ 64 - 1)) (sym (length-take-le k piece g.within)))

-- A part of a piece after another.
pub part_read : (first old new : Machine) (start n m i k : ℕ) (piece rest : List ℕ) → rest ≡ drop i piece
    → ((b : List ℕ) → Reads first start b → Reads old n (b ++ take i piece)) → ((b : List ℕ) → Reads old n b → Reads new m (b ++ take k rest))
    → (b : List ℕ) → Reads first start b → Reads new m (b ++ take (i + k) piece)
part_read first old new start n m i k piece rest e before now b h =
    subst (λ (z : List ℕ). Reads new m z)
    (append_assoc b (take i piece) (take k rest) ∙ ap (λ (z : List ℕ). b ++ (take i piece ++ take k z)) e ∙ ap (λ (z : List ℕ). b ++ z) (sym (take-add i k piece)))
    (now (b ++ take i piece) (before b h))

-- The rest of a piece was refused.
pub rest_refused : (first old : Machine) (start n i : ℕ) (piece rest : List ℕ) (e : JsonRefusal) → rest ≡ drop i piece
    → ((b : List ℕ) → Reads first start b → Reads old n (b ++ take i piece)) → ((b : List ℕ) → Reads old n b → IsRefused e (b ++ rest))
    → (b : List ℕ) → Reads first start b → IsRefused e (b ++ piece)
rest_refused first old start n i piece rest e is before now b h =
    subst (λ (z : List ℕ). IsRefused e z)
    (append_assoc b (take i piece) rest ∙ ap (λ (z : List ℕ). b ++ (take i piece ++ z)) is ∙ ap (λ (z : List ℕ). b ++ z) (take-append-drop i piece))
    (now (b ++ take i piece) (before b h))

-- A decoder that has refused what it was fed.
pub fed_refused : (o : Option JsonRefusal) (e : JsonRefusal) (machine : Machine) (n : ℕ) (b more : List ℕ) → o ≡ Some e → HasTaken o machine n b → IsRefused e (b ++ more)
fed_refused o e machine n b more is h = refused_more e b more (subst (λ (z : Option JsonRefusal). HasTaken z machine n b) is h)

pub fed_still : (o : Option JsonRefusal) (e : JsonRefusal) (machine : Machine) (n : ℕ) (b more : List ℕ) → o ≡ Some e → HasTaken o machine n b → HasTaken o machine n (b ++ more)
fed_still o e machine n b more is h = subst (λ (z : Option JsonRefusal). HasTaken z machine n (b ++ more)) (sym is) (fed_refused o e machine n b more is h)

pub fed_no_text : (o : Option JsonRefusal) (e : JsonRefusal) (machine : Machine) (n : ℕ) (b : List ℕ) → o ≡ Some e → HasTaken o machine n b → IsNoText e b
fed_no_text o e machine n b is h = refused_text e b (subst (λ (z : Option JsonRefusal). HasTaken z machine n b) is h)
