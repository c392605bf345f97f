-- Bytes that are written after one another are written as one list.
use Rattle.std.proofs.Common.{◌≡◌, ◌∙◌, ℕ, List, [], ◌++◌, Result, OnOk, ap, append_assoc}
use Rattle.std.proofs.lemmas.List.{append-nil}
use Rattle.std.proofs.lemmas.Result.{on_ok_weaker}
use Rattle.lot_svg.specs.Written.{Written, append}

pub appends : (s : Written) (a b : List ℕ) → append (append s a) b ≡ append s (a ++ b)
unfolding append
appends s a b = ap (λ (bytes : List ℕ). record { bytes = bytes; next = s.next }) (append_assoc s.bytes a b)

pub appends_nothing : (s : Written) → append s [] ≡ s
unfolding append
appends_nothing s = ap (λ (bytes : List ℕ). record { bytes = bytes; next = s.next }) (append-nil s.bytes)

pub ruleset appending = (appends, appends_nothing)

-- Bytes are written, and then others.
pub written_next : (x y z : Written) (a b : List ℕ) → y ≡ append x a → z ≡ append y b → z ≡ append x (a ++ b)
written_next x y z a b e written = written ∙ ap (λ (w : Written). append w b) e ∙ appends x a b

-- The others by a call that may be refused.
pub then_append : {T E : Type 0} (r : Result T E) (x y z : Written) (a b : List ℕ)
    → y ≡ append x a → OnOk r (z ≡ append y b) → OnOk r (z ≡ append x (a ++ b))
then_append r x y z a b e h =
    on_ok_weaker r (written_next x y z a b e) h

-- The whole is known by another text.
pub known_as : {T E : Type 0} (r : Result T E) (x z : Written) (a b : List ℕ)
    → a ≡ b → OnOk r (z ≡ append x a) → OnOk r (z ≡ append x b)
known_as r x z a b e h = on_ok_weaker r (λ written. written ∙ ap (append x) e) h
