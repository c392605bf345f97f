-- What is left to read where the bytes end.
use Rattle.std.proofs.Common.{◌≡◌, ◌↔◌, ℕ, ◌<◌, List, [], ◌∷◌, ◌++◌, length, reverse, refl, sym, ◌∙◌, ap, subst, arith}
use Rattle.std.proofs.lemmas.List.{length-reverse}
use Rattle.lot_json.specs.declared.tree.number.Number.{Number}
use Rattle.lot_json.specs.declared.tokens.number_token.NumberToken.{NumberToken}
use Rattle.lot_json.specs.declared.tree.json.Json.{Json}
use Rattle.lot_json.specs.declared.tree.json.Json.TheVariants as tree
use Rattle.lot_json.specs.declared.machine.mode.Mode.TheVariants as mode
use Rattle.lot_json.specs.Pending.{State, stack_of, state_of}
use Rattle.lot_json.specs.Pending as pending
use Rattle.lot_json.proofs.Innermost.{none_open}
use Rattle.lot_json.proofs.Moves.{at_mode}
use Rattle.lot_json.specs.declared.machine.container.Container.{Container}
use Rattle.lot_json.specs.declared.machine.container.Container.TheVariants as container
use Rattle.lot_json.specs.declared.machine.machine.Machine.{Machine}
use Rattle.lot_json.specs.Grammar.{more_items_space, more_items_close, more_items_next, more_members_space, more_members_close, more_members_next}
use Rattle.lot_json.specs.NumberRest.{NumberRest}
use Rattle.lot_json.specs.Residual.{AfterValue, Completes, RestOfTextBy, RestOfText, Remaining}

parts_of_nothing : (b s : List ℕ) → [] ≡ b ++ s → (b ≡ []) × (s ≡ [])
parts_of_nothing [] s e = (refl, sym e)
parts_of_nothing (c ∷ b) s e = cc

-- Where no byte completes what is being read, no text ends here.
then_some : (P : List ℕ → Json → Type 0) → ((y : Json) → P [] y → ⊥) → (stack : List Container) (x : Json) → RestOfTextBy P stack [] x → ⊥
then_some P k stack x (b, s, y, p, e, h) = k y (subst (λ (z : List ℕ). P z y) (parts_of_nothing b s e).0 p)

-- After a value in an array or an object more comes.
puts_some : (o : Container) (below : List Container) (y x : Json) → AfterValue (o ∷ below) y [] x → ⊥
puts_some (container.Array items) below y x (b, s, ys, more_items_space c r sp m is, e, h) = let q : [] ≡ c ∷ (r ++ s) = e ∙ ap (λ (z : List ℕ). z ++ s) is in cc
puts_some (container.Array items) below y x (b, s, ys, more_items_close is name, e, h) = let q : [] ≡ 93 ∷ s = e ∙ ap (λ (z : List ℕ). z ++ s) is in cc
puts_some (container.Array items) below y x (b, s, ys, more_items_next f r z zs v m is name, e, h) = let q : [] ≡ 44 ∷ ((f ++ r) ++ s) = e ∙ ap (λ (z : List ℕ). z ++ s) is in cc
puts_some (container.Object pairs name) below y x (b, s, ys, more_members_space c r sp m is, e, h) = let q : [] ≡ c ∷ (r ++ s) = e ∙ ap (λ (z : List ℕ). z ++ s) is in cc
puts_some (container.Object pairs name) below y x (b, s, ys, more_members_close is k, e, h) = let q : [] ≡ 125 ∷ s = e ∙ ap (λ (z : List ℕ). z ++ s) is in cc
puts_some (container.Object pairs name) below y x (b, s, ys, more_members_next r m is, e, h) = let q : [] ≡ 44 ∷ (r ++ s) = e ∙ ap (λ (z : List ℕ). z ++ s) is in cc

number_open : (token : NumberToken) (stack : List Container) (x : Json) → 0 < length stack → RestOfText (pending.Number token) stack [] x → ⊥
number_open token [] x k h = omega arith
number_open token (o ∷ below) x k (b, s, y, p, e, h) = puts_some o below y x (subst (λ (z : List ℕ). AfterValue (o ∷ below) y z x) (parts_of_nothing b s e).1 h)

-- A number that an array or an object holds.
pub number_within : (token : NumberToken) (items : List Container) (x : Json) → 0 < length items → RestOfText (pending.Number token) (reverse items) [] x → ⊥
number_within token items x k h = number_open token (reverse items) x (omega (arith, length-reverse items, k)) h

pub number_part : (token : NumberToken) (stack : List Container) (x : Json) → ((m : Number) → NumberRest token [] m → ⊥) → RestOfText (pending.Number token) stack [] x → ⊥
number_part token stack x k h = then_some (Completes (pending.Number token) (length stack)) (λ y p. k p.0 p.1) stack x h

root_number-ahead : (token : NumberToken) (n : Number) → ((m : Number) → NumberRest token [] m ↔ (m ≡ n)) → (x : Json) → RestOfText (pending.Number token) [] [] x → x ≡ tree.Number n
root_number-ahead token n k x (b, s, y, (m, h, is), e, (spaces, same)) = same ∙ is ∙ ap tree.Number ((k m).0 (subst (λ (z : List ℕ). NumberRest token z m) (parts_of_nothing b s e).0 h))

root_number-back : (token : NumberToken) (n : Number) → ((m : Number) → NumberRest token [] m ↔ (m ≡ n)) → (x : Json) → x ≡ tree.Number n → RestOfText (pending.Number token) [] [] x
root_number-back token n k x e = ([], [], tree.Number n, (n, (k n).1 refl, refl), refl, (tt, e))

-- A number that is the root.
pub root_number : (token : NumberToken) (n : Number) (items : List Container) → length items ≡ 0 → ((m : Number) → NumberRest token [] m ↔ (m ≡ n)) → (x : Json) → RestOfText (pending.Number token) (reverse items) [] x ↔ (x ≡ tree.Number n)
root_number token n items e k x = subst (λ (z : List Container). RestOfText (pending.Number token) z [] x ↔ (x ≡ tree.Number n)) (sym (none_open items e)) (root_number-ahead token n k x, root_number-back token n k x)

pub root_number_of : (machine : Machine) (token : NumberToken) (n : Number) → machine.mode ≡ mode.Number token → length machine.stack.items ≡ 0 → ((m : Number) → NumberRest token [] m ↔ (m ≡ n)) → (x : Json) → Remaining (state_of machine) [] x ↔ (x ≡ tree.Number n)
root_number_of machine token n e none k x =
    subst (λ (w : State). Remaining w [] x ↔ (x ≡ tree.Number n)) (sym (at_mode machine (mode.Number token) (stack_of machine) e refl)) (root_number token n machine.stack.items none k x)
