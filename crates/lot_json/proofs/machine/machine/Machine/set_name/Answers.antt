use Rattle.std.proofs.Common.{◌≡◌, ◌-◌, ◌<◌, ◌∷◌, ap, length, take, reverse, refl, sym, ◌∙◌, rules, arith}
use Rattle.std.specs.Vec.{vec_len}
use Rattle.lot_json.specs.declared.machine.container.Container.{Container}
use Rattle.lot_json.specs.declared.machine.container.Container.TheVariants as container
use Rattle.lot_json.specs.Pending.{with_name}
use Rattle.lot_json.proofs.Innermost.{innermost, last_set, none_open}
use Rattle.lot_json.proofs.machine.machine.Machine.set_name.Goals as goal

pub returns-in_default-clause-stack : goal.returns-in_default-clause-stack
returns-in_default-clause-stack c =
    let none = none_open c.args.self.now.stack.items (omega (arith, c.in_default.ensures.item.3)) in
    none ∙ sym (ap (with_name c.args.name) none)

pub returns-in-Object-clause-stack : goal.returns-in-Object-clause-stack
returns-in-Object-clause-stack c =
    let stack = c.args.self.now.stack in
    let n = vec_len stack in
    let below = reverse (take (n - 1) stack.items) in
    let same : n ≡ length stack.items = search rules in
    let some : 0 < n = c.in-Some.ensures.variant.0 refl in
    last_set stack.items n (container.Object c.in-Object.field-0 c.args.name) same some
    ∙ sym (ap (with_name c.args.name) (innermost stack.items n c.in-Some.inner.now same some c.in-Some.ensures.value ∙ ap (λ (z : Container). z ∷ below) c.in-Object.is))
