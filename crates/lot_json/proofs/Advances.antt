-- What is answered to bytes, from what each part of them does.
use Rattle.std.proofs.Common.{◌≡◌, ℕ, zero, suc, ◌+◌, ◌<◌, Bool, true, false, if◌then◌else◌, List, [], ◌∷◌, ◌++◌, length, length-append, take, take-suc, get_or, refl, sym, ◌∙◌, ap, subst, add-one, append_assoc, arith}
use Rattle.std.proofs.Math.Seq.{take-append_seam}
use Rattle.std.proofs.lemmas.List.{take_all}
use Rattle.lot_json.specs.declared.tree.json.Json.{Json}
use Rattle.lot_json.specs.declared.progress.Progress.{Progress}
use Rattle.lot_json.specs.declared.progress.Progress.TheVariants as progress
use Rattle.lot_json.specs.Pending.{State}
use Rattle.lot_json.specs.Residual.{Remaining, Transition, ReadsByte, Advances}
use Rattle.lot_json.proofs.Residual.{Same, stays}

-- Bytes after others.
pub then_steps : (a b : List ℕ) (p q r : State) → Transition a p q → Transition b q r → Transition (a ++ b) p r
then_steps a b p q r h k = record {
  ahead = λ t x l. k.ahead t x (h.ahead (b ++ t) x (subst (λ (z : List ℕ). Remaining p z x) (append_assoc a b t) l));
  back = λ t x l. subst (λ (z : List ℕ). Remaining p z x) (sym (append_assoc a b t)) (h.back (b ++ t) x (k.back t x l));
  live = λ l. k.live (h.live l);
}

pub one_more : (bytes : List ℕ) (n : ℕ) → n < length bytes → take (n + 1) bytes ≡ take n bytes ++ get_or bytes n 0 ∷ []
one_more bytes n l = ap (λ (z : ℕ). take z bytes) (add-one n) ∙ take-suc bytes n 0 l

-- One byte was tried after the first n.
pub with_next : (continues : Bool) (a : Progress) (n : ℕ) (bytes : List ℕ) (start mid new : State) → a ≡ (if continues then progress.Continues (n + 1) else progress.Rejects n) → n < length bytes
    → Transition (take n bytes) start mid → ReadsByte continues (get_or bytes n 0) mid new → Advances a bytes start new
with_next true a n bytes start mid new e l h k = subst (λ (z : Progress). Advances z bytes start new) (sym e) (record {
  some = omega arith;
  within = omega (arith, l);
  steps = subst (λ (z : List ℕ). Transition z start new) (sym (one_more bytes n l)) (then_steps (take n bytes) (get_or bytes n 0 ∷ []) start mid new h k);
})
with_next false a n bytes start mid new e l h k = subst (λ (z : Progress). Advances z bytes start new) (sym e) (record {
  within = l;
  live = λ can. let q = h.live can in (q.0, q.1, h.back q.0 q.1 q.2);
  dead = λ r x p. k.none r x (h.ahead (get_or bytes n 0 ∷ r) x
      (subst (λ (z : List ℕ). Remaining start z x) (ap (λ (z : List ℕ). z ++ r) (one_more bytes n l) ∙ append_assoc (take n bytes) (get_or bytes n 0 ∷ []) r) p));
})

-- The first byte was tried.
pub tried_first : (continues : Bool) (a : Progress) (bytes : List ℕ) (old new : State) → a ≡ (if continues then progress.Continues 1 else progress.Rejects 0) → 0 < length bytes → ReadsByte continues (get_or bytes 0 0) old new → Advances a bytes old new
tried_first continues a bytes old new e l k = with_next continues a 0 bytes old old new e l (stays old) k

pub first_continues : (bytes : List ℕ) (old new : State) → 0 < length bytes → Transition (get_or bytes 0 0 ∷ []) old new → Advances (progress.Continues 1) bytes old new
first_continues bytes old new l k = tried_first true (progress.Continues 1) bytes old new refl l k

-- A prefix of the bytes.
pub prefix_continues : (n : ℕ) (bytes prefix rest : List ℕ) (old new : State) → bytes ≡ prefix ++ rest → n ≡ length prefix → 0 < n → Transition prefix old new → Advances (progress.Continues n) bytes old new
prefix_continues n bytes prefix rest old new e is l h = record {
  some = l;
  within = let q = ap length e ∙ length-append prefix rest in omega (arith, q, is);
  steps = subst (λ (z : List ℕ). Transition z old new) (sym (ap (λ (z : ℕ). take z bytes) is ∙ ap (take (length prefix)) e ∙ take-append_seam prefix rest)) h;
}

-- All of the bytes.
pub all_continue : (n : ℕ) (bytes : List ℕ) (old new : State) → n ≡ length bytes → 0 < length bytes → Transition bytes old new → Advances (progress.Continues n) bytes old new
all_continue n bytes old new e l h = record {
  some = omega (arith, e, l);
  within = omega (arith, e);
  steps = subst (λ (z : List ℕ). Transition z old new) (sym (take_all n bytes (omega (arith, e)))) h;
}

first_of : (bytes : List ℕ) → 0 < length bytes → (rest : List ℕ) × (bytes ≡ get_or bytes 0 0 ∷ rest)
first_of [] l = absurd (omega (arith, l))
first_of (c ∷ rest) l = (rest, refl)

-- On the first byte the two states are one.
same_prefix : (n : ℕ) (bytes : List ℕ) (old mid : State) → 0 < length bytes → Same (get_or bytes 0 0) old mid → (r : List ℕ) (x : Json) → Remaining old (take (suc n) bytes ++ r) x → Remaining mid (take (suc n) bytes ++ r) x
same_prefix n [] old mid l s r x h = absurd (omega (arith, l))
same_prefix n (c ∷ rest) old mid l s r x h = s.ahead (take n rest ++ r) x h

same_back : (n : ℕ) (bytes : List ℕ) (old mid : State) → 0 < length bytes → Same (get_or bytes 0 0) old mid → (r : List ℕ) (x : Json) → Remaining mid (take (suc n) bytes ++ r) x → Remaining old (take (suc n) bytes ++ r) x
same_back n [] old mid l s r x h = absurd (omega (arith, l))
same_back n (c ∷ rest) old mid l s r x h = s.back (take n rest ++ r) x h

pub advances_same : (a : Progress) (bytes : List ℕ) (old mid new : State) → 0 < length bytes → Same (get_or bytes 0 0) old mid → Advances a bytes mid new → Advances a bytes old new
advances_same (progress.Continues zero) bytes old mid new l s h = absurd (omega (arith, h.some))
advances_same (progress.Continues (suc n)) bytes old mid new l s h = record {
  some = h.some;
  within = h.within;
  steps = record {
    ahead = λ r x p. h.steps.ahead r x (same_prefix n bytes old mid l s r x p);
    back = λ r x p. same_back n bytes old mid l s r x (h.steps.back r x p);
    live = λ _. h.steps.live s.live;
  };
}
advances_same (progress.Ends n) bytes old mid new l s h = absurd h
advances_same (progress.Rejects zero) bytes old mid new l s h = record {
  within = h.within;
  live = λ can. can;
  dead = λ r x p. h.dead r x (same_prefix 0 bytes old mid l s r x p);
}
advances_same (progress.Rejects (suc n)) bytes old mid new l s h = record {
  within = h.within;
  live = λ _. let q = h.live s.live in (q.0, q.1, same_back n bytes old mid l s q.0 q.1 q.2);
  dead = λ r x p. h.dead r x (subst (λ (z : ℕ). Remaining mid (take z bytes ++ r) x) (sym (add-one (suc n))) (same_prefix (suc n) bytes old mid l s r x (subst (λ (z : ℕ). Remaining old (take z bytes ++ r) x) (add-one (suc n)) p)));
}
