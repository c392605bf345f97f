-- What holds of all items of a list holds of the list turned round, of the items that pass a test, of the first that
-- does, and of the item at an index.
use Rattle.std.proofs.Common.{ℕ, zero, suc, Bool, true, false, cond, List, [], ◌∷◌, filter, reverse, slice_get, Some, sym, subst}
use Rattle.std.specs.Prelude.{IfSome}
use Rattle.std.specs.List.{All, find}
use Rattle.std.proofs.lemmas.List.{reverse-append}
use Rattle.std.proofs.lemmas.List.Elements.{All-nil, All-cons, All-head, All-tail, All-append}

pub All-reverse : {X : Type 0} (P : X → Type 0) (xs : List X) → All P xs → All P (reverse xs)
All-reverse P [] h = h
All-reverse P (x ∷ xs) h =
    subst (All P) (sym (reverse-append (x ∷ []) xs))
    (All-append P (reverse xs) (x ∷ []) (All-reverse P xs (All-tail P x xs h)) (All-cons P x [] (All-head P x xs h) (All-nil P)))

pub All-filter : {X : Type 0} (P : X → Type 0) (test : X → Bool) (xs : List X) → All P xs → All P (filter test xs)
All-filter P test [] h = All-nil P
All-filter {X} P test (x ∷ xs) h = either (test x) (All-filter P test xs (All-tail P x xs h))
  where
    either : (b : Bool) → All P (filter test xs) → All P (cond b (x ∷ filter test xs) (filter test xs))
    either true k = All-cons P x (filter test xs) (All-head P x xs h) k
    either false k = k

pub All-find : {X : Type 0} (P : X → Type 0) (test : X → Bool) (xs : List X) → All P xs → IfSome (find test xs) P
All-find P test [] h = tt
All-find {X} P test (x ∷ xs) h = either (test x) (All-find P test xs (All-tail P x xs h))
  where
    either : (b : Bool) → IfSome (find test xs) P → IfSome (cond b (Some x) (find test xs)) P
    either true k = All-head P x xs h
    either false k = k

pub All-slice_get : {X : Type 0} (P : X → Type 0) (xs : List X) (i : ℕ) → All P xs → IfSome (slice_get xs i) P
All-slice_get P [] i h = tt
All-slice_get P (x ∷ xs) zero h = All-head P x xs h
All-slice_get P (x ∷ xs) (suc i) h = All-slice_get P xs i (All-tail P x xs h)
