-- Machines by their states.
use Rattle.std.proofs.Common.{◌≡◌, ℕ, List, refl, sym, ◌∙◌, ap, subst}
use Rattle.lot_json.specs.declared.tree.json.Json.{Json}
use Rattle.lot_json.specs.declared.machine.mode.Mode.{Mode}
use Rattle.lot_json.specs.declared.machine.container.Container.{Container}
use Rattle.lot_json.specs.declared.machine.machine.Machine.{Machine}
use Rattle.lot_json.specs.Pending.{State, state_in, stack_of, state_of}
use Rattle.lot_json.specs.Residual.{Transition, IsRejected, PlacesValue}
use Rattle.lot_json.proofs.Residual.{Same}

pub at_mode : (a : Machine) (m : Mode) (stack : List Container) → a.mode ≡ m → stack_of a ≡ stack → state_of a ≡ state_in m stack
at_mode a m stack e k = ap (λ (z : Mode). state_in z (stack_of a)) e ∙ ap (λ (z : List Container). state_in m z) k

pub moves : (bytes : List ℕ) (old new : Machine) (m n : Mode) (stack : List Container) → old.mode ≡ m → new.mode ≡ n → stack_of new ≡ stack → Transition bytes (state_in m (stack_of old)) (state_in n stack) → Transition bytes (state_of old) (state_of new)
moves bytes old new m n stack e f k h =
    subst (λ (z : State). Transition bytes z (state_of new)) (sym (at_mode old m (stack_of old) e refl))
    (subst (λ (z : State). Transition bytes (state_in m (stack_of old)) z) (sym (at_mode new n stack f k)) h)

-- The same where the old machine is said by its stack too, and the new state in any way.
pub leaves : (bytes : List ℕ) (old : Machine) (m : Mode) (stack : List Container) (new : State) → old.mode ≡ m → stack_of old ≡ stack → Transition bytes (state_in m stack) new → Transition bytes (state_of old) new
leaves bytes old m stack new e k h = subst (λ (z : State). Transition bytes z new) (sym (at_mode old m stack e k)) h

pub arrives : (bytes : List ℕ) (old : State) (new : Machine) (n : Mode) (stack : List Container) → new.mode ≡ n → stack_of new ≡ stack → Transition bytes old (state_in n stack) → Transition bytes old (state_of new)
arrives bytes old new n stack f k h = subst (λ (z : State). Transition bytes old z) (sym (at_mode new n stack f k)) h

pub rejected : (c : ℕ) (old : Machine) (m : Mode) → old.mode ≡ m → IsRejected c (state_in m (stack_of old)) → IsRejected c (state_of old)
rejected c old m e h = subst (λ (z : State). IsRejected c z) (sym (at_mode old m (stack_of old) e refl)) h

pub same : (c : ℕ) (old new : Machine) (m n : Mode) (stack : List Container) → old.mode ≡ m → new.mode ≡ n → stack_of new ≡ stack → Same c (state_in m (stack_of old)) (state_in n stack) → Same c (state_of old) (state_of new)
same c old new m n stack e f k h =
    subst (λ (z : State). Same c z (state_of new)) (sym (at_mode old m (stack_of old) e refl))
    (subst (λ (z : State). Same c (state_in m (stack_of old)) z) (sym (at_mode new n stack f k)) h)

pub same_from : (c : ℕ) (old : Machine) (m : Mode) (new : State) → old.mode ≡ m → Same c (state_in m (stack_of old)) new → Same c (state_of old) new
same_from c old m new e h = subst (λ (z : State). Same c z new) (sym (at_mode old m (stack_of old) e refl)) h

pub puts : (v : Json) (before stack : List Container) (new : Machine) (n : Mode) (grown : List Container) → before ≡ stack → new.mode ≡ n → stack_of new ≡ grown → PlacesValue v stack (state_in n grown) → PlacesValue v before (state_of new)
puts v before stack new n grown is f k h =
    subst (λ (z : List Container). PlacesValue v z (state_of new)) (sym is)
    (subst (λ (z : State). PlacesValue v stack z) (sym (at_mode new n grown f k)) h)
