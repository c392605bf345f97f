use Rattle.std.proofs.Common.{◌≡◌, ◌-◌, ◌<◌, ℕ, List, [], ◌∷◌, ◌++◌, length, take, reverse, refl, ◌∙◌, ap, rules, arith}
use Rattle.std.specs.Vec.{vec_len}
use Rattle.lot_json.specs.declared.tree.json.Json.{Json}
use Rattle.lot_json.specs.declared.machine.mode.Mode.TheVariants as mode
use Rattle.lot_json.specs.declared.machine.container.Container.{Container}
use Rattle.lot_json.specs.declared.machine.container.Container.TheVariants as container
use Rattle.lot_json.specs.Pending.{stack_of}
use Rattle.lot_json.proofs.Residual.{puts_root, puts_item, puts_member}
use Rattle.lot_json.proofs.Moves.{puts}
use Rattle.lot_json.proofs.Objects.{Pairs}
use Rattle.lot_json.proofs.Innermost.{innermost, last_set, none_open}
use Rattle.lot_json.proofs.machine.machine.Machine.place_value.Goals as goal

pub returns-in_default-clause-places : goal.returns-in_default-clause-places
returns-in_default-clause-places c =
    let xs = c.args.self.now.stack.items in
    let none : stack_of c.args.self.now ≡ [] = none_open xs (omega (arith, c.in_default.ensures.item.3)) in
    puts c.args.value (stack_of c.args.self.now) [] c.set_mode.new.self (mode.Done c.args.value) [] none c.set_mode.ensures.turned (c.set_mode.ensures.stack ∙ none) (puts_root c.args.value)

pub returns-in_ok-push-in-Array-clause-places : goal.returns-in_ok-push-in-Array-clause-places
returns-in_ok-push-in-Array-clause-places c =
    let stack = c.args.self.now.stack in
    let n = vec_len stack in
    let below = reverse (take (n - 1) stack.items) in
    let same : n ≡ length stack.items = search rules in
    let some : 0 < n = c.in-Some.ensures.variant.0 refl in
    puts c.args.value (stack_of c.args.self.now) (container.Array c.in-Array.items ∷ below) c.set_mode-in-Array.new.self mode.AfterItem (container.Array (c.in-Array.items ++ c.args.value ∷ []) ∷ below)
    (innermost stack.items n c.in-Some.inner.now same some c.in-Some.ensures.value ∙ ap (λ (z : Container). z ∷ below) c.in-Array.is)
    c.set_mode-in-Array.ensures.turned
    (c.set_mode-in-Array.ensures.stack ∙ last_set stack.items n (container.Array c.push.new.self) same some ∙ ap (λ (z : List Json). container.Array z ∷ below) c.in_ok-push-in-Array.ensures.ok)
    (puts_item c.args.value c.in-Array.items below)

pub returns-in_ok-push-in-Object-clause-places : goal.returns-in_ok-push-in-Object-clause-places
returns-in_ok-push-in-Object-clause-places c =
    let stack = c.args.self.now.stack in
    let n = vec_len stack in
    let below = reverse (take (n - 1) stack.items) in
    let same : n ≡ length stack.items = search rules in
    let some : 0 < n = c.in-Some.ensures.variant.0 refl in
    let next = c.replace-name.new.dest in
    let longer : c.push-in-Object.new.self ≡ c.in-Object.members ++ (c.in-Object.name, c.args.value) ∷ [] =
    c.in_ok-push-in-Object.ensures.ok ∙ ap (λ (z : List ℕ). c.in-Object.members ++ (z, c.args.value) ∷ []) c.replace-name.ensures.value in
    puts c.args.value (stack_of c.args.self.now) (container.Object c.in-Object.members c.in-Object.name ∷ below) c.set_mode-in-Object.new.self mode.AfterMember (container.Object (c.in-Object.members ++ (c.in-Object.name, c.args.value) ∷ []) next ∷ below)
    (innermost stack.items n c.in-Some.inner.now same some c.in-Some.ensures.value ∙ ap (λ (z : Container). z ∷ below) c.in-Object.is)
    c.set_mode-in-Object.ensures.turned
    (c.set_mode-in-Object.ensures.stack ∙ last_set stack.items n (container.Object c.push-in-Object.new.self next) same some ∙ ap (λ (z : Pairs). container.Object z next ∷ below) longer)
    (puts_member c.args.value c.in-Object.members c.in-Object.name below)
